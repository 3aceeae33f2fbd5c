-- Private: readable trees of at most so many nodes above one another, by recursion. No contract of a public function speaks of it.
use Rattle.std.specs.Prelude.{◌≡◌, ℕ, zero, suc, true, IfSome, Option, Some, None}
use Rattle.std.specs.List.{AllByRecursion}
use Rattle.promql_text.specs.Values.{IsNumber}
use Rattle.promql_text.specs.declared.number.Number.{Number}
use Rattle.promql_token.specs.Ids.{is_one_of}
use Rattle.promql_label.specs.PlainMatchers.{PlainMatchers, plain_matchers}
use Rattle.promql_kind.specs.Functions.{function_named, name_of}
use Rattle.promql_kind.specs.Modifiers.{fills, Matching, matching}
use Rattle.promql_ast.specs.Selectors.{Selector, selector}
use Rattle.promql_ast.specs.Tree.{Tree, aggregate, unary, binary, paren, subquery, number, string, vector, matrix, call, extension, MaybeTree, absent, present, Trees, no_trees, first_tree}
use Rattle.promql_from_json.specs.Readable.{ReadableMatcher, ReadableMoment}
use Rattle.promql_from_json.specs.declared.read_values.TheConstants.{AGGREGATORS, OPERATORS}

abbrev pub ReadableFill : Option Number → Type 0
ReadableFill n = IfSome n IsNumber

abbrev pub ReadableMatching : Option Matching → Type 0
ReadableMatching None = Unit {0}
ReadableMatching (Some (matching card clause return_bool (fills r l))) = ReadableFill r × ReadableFill l

abbrev pub ReadableMatchers : PlainMatchers → Type 0
ReadableMatchers (plain_matchers plain groups) = AllByRecursion ReadableMatcher plain × AllByRecursion (AllByRecursion ReadableMatcher) groups

abbrev pub ReadableSelector : Selector → Type 0
ReadableSelector (selector name matchers offset at) = ReadableMatchers matchers × ReadableMoment at

abbrev mutual
  pub ReadableBelow : ℕ → Tree → Type 0
  ReadableBelow zero t = ⊥
  ReadableBelow (suc n) (aggregate op e p m) = (is_one_of AGGREGATORS op ≡ true) × MaybeReadableBelow n p × ReadableBelow n e
  ReadableBelow (suc n) (unary e) = ReadableBelow n e
  ReadableBelow (suc n) (binary op l r m) = (is_one_of OPERATORS op ≡ true) × ReadableMatching m × ReadableBelow n l × ReadableBelow n r
  ReadableBelow (suc n) (paren e) = ReadableBelow n e
  ReadableBelow (suc n) (subquery e offset at range step) = ReadableMoment at × ReadableBelow n e
  ReadableBelow (suc n) (number v) = IsNumber v
  ReadableBelow (suc n) (string s) = Unit {0}
  ReadableBelow (suc n) (vector s) = ReadableSelector s
  ReadableBelow (suc n) (matrix s range mode) = ReadableSelector s
  ReadableBelow (suc n) (call f args) = (function_named (name_of f) ≡ Some f) × AllReadableBelow n args
  ReadableBelow (suc n) (extension name gives es) = ⊥

  pub MaybeReadableBelow : ℕ → MaybeTree → Type 0
  MaybeReadableBelow n absent = Unit {0}
  MaybeReadableBelow n (present e) = ReadableBelow n e

  pub AllReadableBelow : ℕ → Trees → Type 0
  AllReadableBelow n no_trees = Unit {0}
  AllReadableBelow n (first_tree e es) = ReadableBelow n e × AllReadableBelow n es
