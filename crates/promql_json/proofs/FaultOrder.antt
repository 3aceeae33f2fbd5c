-- The first fault by recursion on the tree is the first that a walk comes to.
use Rattle.std.proofs.Common.{◌≡◌, Option, Some, None, Ok, Err, refl, sym, ap, ap₂, ◌∙◌}
use Rattle.std.specs.Option.{option_or}
use Rattle.serde_json.specs.Data.{Members, object}
use Rattle.promql_ast.specs.Fold.{maybe_within, all_within}
use Rattle.promql_ast.specs.Tree.{Tree, aggregate, unary, binary, paren, subquery, number, string, vector, matrix, call, extension, MaybeTree, absent, present, Trees, no_trees, first_tree}
use Rattle.promql_json.specs.declared.error.JsonError.{JsonError}
use Rattle.promql_json.specs.Json.{own_fault, first_fault, node_json, args_json}
use Rattle.promql_json.specs.FormNames.{node_members, unless}
use Rattle.promql_json.specs.JsonFaults.{json_fault, param_fault, args_fault, args_members}

or_none : (a : Option JsonError) → a ≡ option_or a None
or_none None = refl
or_none (Some e) = refl

mutual
  pub first_met : (t : Tree) → json_fault t ≡ first_fault t
  first_met (aggregate op e p m) = ap₂ option_or (param_first_met p) (first_met e)
  first_met (unary e) = first_met e
  first_met (binary op l r m) = ap₂ option_or (first_met l) (first_met r)
  first_met (paren e) = first_met e
  first_met (subquery e offset at range step) = ap (option_or (own_fault (subquery e offset at range step))) (first_met e)
  first_met (number n) = refl
  first_met (string s) = refl
  first_met (vector s) = or_none (own_fault (vector s))
  first_met (matrix s range mode) = or_none (own_fault (matrix s range mode))
  first_met (call f args) = all_first_met args
  first_met (extension name gives es) = refl

  pub param_first_met : (p : MaybeTree) → param_fault p ≡ maybe_within None option_or (λ t below. option_or (own_fault t) below) p
  param_first_met absent = refl
  param_first_met (present e) = first_met e

  pub all_first_met : (ts : Trees) → args_fault ts ≡ all_within None option_or (λ t below. option_or (own_fault t) below) ts
  all_first_met no_trees = refl
  all_first_met (first_tree e es) = ap₂ option_or (first_met e) (all_first_met es)

-- a node by itself: its object where nothing is at fault, else the first fault
pub node_ok : (t : Tree) (ms : Members) → json_fault t ≡ None → ms ≡ node_members t → node_json t ≡ Ok (object ms)
node_ok t ms f m = ap (λ g. unless g (object (node_members t))) (sym (first_met t) ∙ f) ∙ ap (λ k. Ok (object k)) (sym m)

pub node_err : (t : Tree) (e : JsonError) → json_fault t ≡ Some e → node_json t ≡ Err e
node_err t e f = ap (λ g. unless g (object (node_members t))) (sym (first_met t) ∙ f)

-- the same of a list of arguments
pub args_ok : (ts : Trees) (ms : Members) → args_fault ts ≡ None → ms ≡ args_members ts → args_json ts ≡ Ok (object ms)
args_ok ts ms f m = ap (λ g. unless g (object (args_members ts))) (sym (all_first_met ts) ∙ f) ∙ ap (λ k. Ok (object k)) (sym m)

pub args_err : (ts : Trees) (e : JsonError) → args_fault ts ≡ Some e → args_json ts ≡ Err e
args_err ts e f = ap (λ g. unless g (object (args_members ts))) (sym (all_first_met ts) ∙ f)
