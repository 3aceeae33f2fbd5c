-- The tokens of a tree's JSON form, and its text.
use Rattle.std.proofs.Common.{◌≡◌, ℕ, ℤ, pos, negsuc, List, [], ◌∷◌, ◌++◌, Option, Some, None, Ok, Err, refl, sym, ap, ◌∙◌, append_assoc, codes}
use Rattle.std.proofs.lemmas.Result.{on_ok_weaker}
use Rattle.std.specs.Prelude.{OnOk, Result}
use Rattle.std.specs.Fmt.{signed_decimal}
use Rattle.std.specs.Option.{option_or}
use Rattle.json.specs.Print.{print}
use Rattle.json.specs.Token.{Token}
use Rattle.json.specs.Tree.{items_tokens}
use Rattle.serde_json.specs.Data.{Data, string as text}
use Rattle.serde_json.specs.Find.{of_integer}
use Rattle.serde_json.specs.Written.{compact_text, items_outline, number_text}
use Rattle.serde_json.proofs.Texts.{print-outline}
use Rattle.promql_label.specs.PlainMatchers.{PlainMatcher, plain_matchers}
use Rattle.promql_text.specs.Texts.{Text}
use Rattle.promql_ast.specs.Selectors.{Selector, selector}
use Rattle.promql_ast.specs.Shifts.{Moment, Shift}
use Rattle.promql_ast.specs.Tree.{Tree, aggregate, unary, binary, paren, subquery, number, string, vector, matrix, call, extension, MaybeTree, absent, present, Trees, no_trees, first_tree}
use Rattle.promql_ast.specs.declared.range_mode.RangeMode.{RangeMode}
use Rattle.promql_ast.specs.declared.range_mode.RangeMode.TheVariants.{Plain, Smoothed, Anchored}
use Rattle.promql_json.specs.declared.error.JsonError.{JsonError}
use Rattle.promql_json.specs.Json.{args_items, json, json_value, param_json}
use Rattle.promql_json.specs.FormNames.{unless}
use Rattle.promql_json.specs.JsonFaults.{json_fault}
use Rattle.promql_json.specs.JsonParts.{group_json, millis, or_null, shift_millis, start_or_end, timestamp, whole}
use Rattle.promql_json.specs.JsonTokens.{end_of, groups_member, member, mode_member, tokens, tree_tokens, param_tokens, rest_of_args}
use Rattle.promql_json.proofs.FaultOrder.{first_met}

-- ---- numbers, and faults

pub signed_text : (z : ℤ) → number_text (of_integer z) ≡ signed_decimal z
signed_text (pos n) = refl
signed_text (negsuc n) = refl

pub no_fault_in : (a b : Option JsonError) → option_or a b ≡ None → (option_or a b ≡ option_or a b) × ((a ≡ None) × (b ≡ None))
no_fault_in None b h = (refl, (refl, h))
no_fault_in (Some e) b h = absurd cc

-- ---- what is written after something else

after : (a b c x y : List Token) → b ≡ a ++ x → c ≡ b ++ y → c ≡ a ++ (x ++ y)
after a b c x y e f = f ∙ ap (λ w. w ++ y) e ∙ append_assoc a x y

pub ok_after : {T E : Type 0} (r : Result T E) (a b c x y : List Token) → b ≡ a ++ x → OnOk r (c ≡ b ++ y) → OnOk r (c ≡ a ++ (x ++ y))
ok_after r a b c x y e = on_ok_weaker r (after a b c x y e)

-- ---- the tokens are those of the value

vector_order : (a b c g m n e : List Token) → (Token.begin_object ∷ (a ++ (b ++ (c ++ g)))) ++ ((m ++ n) ++ e) ≡ Token.begin_object ∷ (a ++ (b ++ (c ++ (g ++ (m ++ (n ++ e))))))
vector_order a b c g m n e = simp append_assoc

vector_parts : (name : Option Text) (plain : List PlainMatcher) (groups : List (List PlainMatcher)) (offset : Option Shift) (at : Option Moment)
    → tree_tokens (vector (selector name (plain_matchers plain groups) offset at))
    ≡ Token.begin_object ∷ (member (codes "matchers") (group_json plain) ++ (member (codes "name") (or_null text name) ++ (member (codes "offset") (whole (shift_millis offset))
    ++ (groups_member groups ++ (member (codes "startOrEnd") (start_or_end at) ++ (member (codes "timestamp") (timestamp at) ++ end_of (codes "vectorSelector")))))))
vector_parts name plain groups offset at =
    vector_order (member (codes "matchers") (group_json plain)) (member (codes "name") (or_null text name)) (member (codes "offset") (whole (shift_millis offset))) (groups_member groups)
    (member (codes "startOrEnd") (start_or_end at)) (member (codes "timestamp") (timestamp at)) (end_of (codes "vectorSelector"))

vector_tokens : (s : Selector) → tree_tokens (vector s) ≡ tokens (json_value (vector s))
vector_tokens (selector name (plain_matchers plain []) offset at) = vector_parts name plain [] offset at
vector_tokens (selector name (plain_matchers plain (g ∷ gs)) offset at) = vector_parts name plain (g ∷ gs) offset at

matrix_order : (a b c g r k m n e : List Token) → (Token.begin_object ∷ (a ++ (b ++ (c ++ g)))) ++ (r ++ (k ++ ((m ++ n) ++ e))) ≡ Token.begin_object ∷ (a ++ (b ++ (c ++ (g ++ (r ++ (k ++ (m ++ (n ++ e))))))))
matrix_order a b c g r k m n e = simp append_assoc

matrix_parts : (name : Option Text) (plain : List PlainMatcher) (groups : List (List PlainMatcher)) (offset : Option Shift) (at : Option Moment) (range : ℕ) (mode : RangeMode)
    → tree_tokens (matrix (selector name (plain_matchers plain groups) offset at) range mode)
    ≡ Token.begin_object ∷ (member (codes "matchers") (group_json plain) ++ (member (codes "name") (or_null text name) ++ (member (codes "offset") (whole (shift_millis offset))
    ++ (groups_member groups ++ (member (codes "range") (whole (millis range)) ++ (mode_member mode
    ++ (member (codes "startOrEnd") (start_or_end at) ++ (member (codes "timestamp") (timestamp at) ++ end_of (codes "matrixSelector")))))))))
matrix_parts name plain groups offset at range mode =
    matrix_order (member (codes "matchers") (group_json plain)) (member (codes "name") (or_null text name)) (member (codes "offset") (whole (shift_millis offset))) (groups_member groups)
    (member (codes "range") (whole (millis range))) (mode_member mode)
    (member (codes "startOrEnd") (start_or_end at)) (member (codes "timestamp") (timestamp at)) (end_of (codes "matrixSelector"))

matrix_tokens : (s : Selector) (range : ℕ) (mode : RangeMode) → tree_tokens (matrix s range mode) ≡ tokens (json_value (matrix s range mode))
matrix_tokens (selector name (plain_matchers plain []) offset at) range Plain = matrix_parts name plain [] offset at range Plain
matrix_tokens (selector name (plain_matchers plain []) offset at) range Smoothed = matrix_parts name plain [] offset at range Smoothed
matrix_tokens (selector name (plain_matchers plain []) offset at) range Anchored = matrix_parts name plain [] offset at range Anchored
matrix_tokens (selector name (plain_matchers plain (g ∷ gs)) offset at) range Plain = matrix_parts name plain (g ∷ gs) offset at range Plain
matrix_tokens (selector name (plain_matchers plain (g ∷ gs)) offset at) range Smoothed = matrix_parts name plain (g ∷ gs) offset at range Smoothed
matrix_tokens (selector name (plain_matchers plain (g ∷ gs)) offset at) range Anchored = matrix_parts name plain (g ∷ gs) offset at range Anchored

mutual
  tokens_of : (t : Tree) → tree_tokens t ≡ tokens (json_value t)
  tokens_of (aggregate op e p m) = rw (tokens_of e, param_tokens_of p)
  tokens_of (unary e) = rw (tokens_of e)
  tokens_of (binary op l r m) = rw (tokens_of l, tokens_of r)
  tokens_of (paren e) = rw (tokens_of e)
  tokens_of (subquery e offset at range step) = rw (tokens_of e)
  tokens_of (number n) = refl
  tokens_of (string s) = refl
  tokens_of (vector s) = vector_tokens s
  tokens_of (matrix s range mode) = matrix_tokens s range mode
  tokens_of (call f args) = rw (args_tokens_of args)
  tokens_of (extension name gives es) = refl

  param_tokens_of : (p : MaybeTree) → param_tokens p ≡ tokens (param_json p)
  param_tokens_of absent = refl
  param_tokens_of (present e) = tokens_of e

  args_tokens_of : (ts : Trees) → rest_of_args ts ≡ items_tokens (items_outline (args_items ts))
  args_tokens_of no_trees = refl
  args_tokens_of (first_tree e es) = rw (tokens_of e, args_tokens_of es)

text_of : (t : Tree) → print (tree_tokens t) ≡ compact_text (json_value t)
text_of t = ap print (tokens_of t) ∙ print-outline (json_value t)

-- ---- the form, and its text

pub has_text : (t : Tree) (s : Text) → json_fault t ≡ None → s ≡ print (tree_tokens t) → (d : Data) × (json t ≡ Ok d) × (s ≡ compact_text d)
has_text t s fits is = (json_value t, ap (λ f. unless f (json_value t)) (sym (first_met t) ∙ fits), is ∙ text_of t)

pub has_fault : (t : Tree) (e : JsonError) → json_fault t ≡ Some e → json t ≡ Err e
has_fault t e fault = ap (λ f. unless f (json_value t)) (sym (first_met t) ∙ fault)
