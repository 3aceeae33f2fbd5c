-- What a pass over the tokens of a tree gives: where its nodes and their parts are, and what is left. Private: nothing rests on
-- believing it.
use Rattle.std.specs.Prelude.{◌≡◌, ℕ, List, [], ◌∷◌, ◌++◌, drop, length, map, Vec}
use Rattle.std.specs.Global.{Global}
use Rattle.promql_text.specs.Texts.{Text}
use Rattle.promql_grammar.specs.declared.token_kinds.TokenKind.{TokenKind}
use Rattle.promql_ast.specs.Tree.{Tree, aggregate, unary, binary, paren, subquery, number, string, vector, matrix, call, extension, MaybeTree, absent, present, Trees, no_trees, first_tree}
use Rattle.promql_span.specs.declared.span.Span.{Span}
use Rattle.promql_places.specs.declared.parts.Part.{Part}
use Rattle.promql_places.specs.declared.placing.Placing.{Placing}
use Rattle.promql_places.specs.CursorTokens.{IsOver, kinds_left, span_in}
use Rattle.promql_places.specs.PartSteps as step
use Rattle.promql_places.specs.PartSteps.{PartSpan, Step, part_in}
use Rattle.promql_places.specs.Skipping.{skip_power_signs, skip_signed, skip_signs}

-- a node, by how many tokens are left at its start and after its end, and its parts
abbrev pub NodeSpan : Type 0
NodeSpan = (ℕ × ℕ) × List PartSpan

-- parts of the node that is passed, nodes below it, and the kinds of the tokens after them
abbrev pub Passed : Type 0
Passed = List PartSpan × List NodeSpan × List TokenKind

abbrev pub begin : List TokenKind → Passed
begin ks = ([], [], ks)

abbrev pub then_skip : Passed → (List TokenKind → List TokenKind) → Passed
then_skip r skip = (r.0, r.1, skip r.2)

abbrev pub then_take : Passed → Step → Passed
then_take r take = (r.0 ++ (take r.2).0, r.1, (take r.2).1)

-- nodes, which have their parts
abbrev pub then_pass : Passed → (List TokenKind → Passed) → Passed
then_pass r more = (r.0, r.1 ++ (more r.2).1, (more r.2).2)

-- a node, with those in it
abbrev pub around : List TokenKind → Passed → Passed
around ks r = ([], ((length ks, length r.2), r.0) ∷ r.1, r.2)

abbrev pub pass_by : (List TokenKind → Passed) → List TokenKind → Passed
pass_by inside ks = around ks (inside ks)

-- the closing parenthesis of no arguments
abbrev pub skip_empty : Trees → List TokenKind → List TokenKind
skip_empty no_trees ks = drop 1 ks
skip_empty (first_tree t ts) ks = ks

-- through the opening parenthesis of a call, and the closing one of no arguments
abbrev pub front_of_call : Trees → Step
front_of_call ts ks = let r = step.called ks in (r.0, skip_empty ts r.1)

abbrev mutual
  pub inside : Tree → List TokenKind → Passed
  inside (aggregate op e p m) = λ ks. then_take (then_pass (then_pass (then_take (begin ks) step.aggregate) (pass_param p)) (pass_by (inside e))) step.aggregate_end
  inside (unary e) = λ ks. then_pass (then_take (begin ks) step.minus) (pass_by (inside e))
  inside (binary op l r m) = λ ks. then_pass (then_take (then_pass (then_skip (begin ks) (skip_power_signs op)) (pass_by (inside l))) step.operator) (pass_by (inside r))
  inside (paren e) = λ ks. then_skip (then_pass (then_skip (begin ks) skip_signed) (pass_by (inside e))) (drop 1)
  inside (subquery e offset at range every) = λ ks. then_take (then_pass (then_skip (begin ks) skip_signs) (pass_by (inside e))) step.range
  inside (number n) = λ ks. then_skip (begin ks) skip_signed
  inside (string s) = λ ks. then_skip (begin ks) skip_signed
  inside (vector s) = λ ks. then_take (begin ks) step.vector
  inside (matrix s range mode) = λ ks. then_take (then_take (begin ks) step.ranged) step.range
  inside (call f ts) = λ ks. then_pass (then_take (begin ks) (front_of_call ts)) (pass_all ts)
  inside (extension name gives es) = λ ks. begin ks

  pub pass_param : MaybeTree → List TokenKind → Passed
  pass_param absent = λ ks. begin ks
  pass_param (present p) = λ ks. then_skip (pass_by (inside p) ks) (drop 1)

  -- arguments, each with the comma or the parenthesis after it
  pub pass_all : Trees → List TokenKind → Passed
  pass_all no_trees = λ ks. begin ks
  pass_all (first_tree t ts) = λ ks. then_pass (then_skip (pass_by (inside t) ks) (drop 1)) (pass_all ts)

abbrev pub pass : Tree → List TokenKind → Passed
pass t = pass_by (inside t)

-- ---- what is found

abbrev pub place_in : Text → NodeSpan → Span
place_in s node = span_in s node.0

abbrev pub parts_in : Text → NodeSpan → List Part
parts_in s node = map (part_in s) node.1

abbrev pub lists_of : List (Vec Part Global) → List (List Part)
lists_of = map (λ ps. ps.items)

-- it goes over the tokens of this text, and has parts for each place
pub record IsPlacing (s : Text) (p : Placing) : Type 0 where
  pub tokens : IsOver s p.tokens
  pub even : length p.places.items ≡ length (lists_of p.parts.items)

-- the pass did this
pub record Passes (r : Passed) (old new : Placing) (had has : List Part) : Type 0 where
  pub to : kinds_left new.tokens ≡ r.2
  pub over : (s : Text) → IsPlacing s old → IsPlacing s new
  pub parts : (s : Text) → IsPlacing s old → has ≡ had ++ map (part_in s) r.0
  pub places : (s : Text) → IsPlacing s old → new.places.items ≡ old.places.items ++ map (place_in s) r.1
  pub have : (s : Text) → IsPlacing s old → lists_of new.parts.items ≡ lists_of old.parts.items ++ map (parts_in s) r.1
