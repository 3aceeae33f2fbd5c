-- An object that is no node's form, kind by kind.
use Rattle.std.proofs.Common.{ℕ, suc, ◌+◌, List, [], ◌∷◌, Bool, true, false, ◌≡◌, ◌≢◌, codes, if◌then◌else◌, refl, ap, sym, subst, ◌∙◌, add-one, Option, Some}
use Rattle.std.proofs.lemmas.Slice.Eq.{bytes_eq-Decides}
use Rattle.std.specs.List.{AllByRecursion}
use Rattle.std.specs.Str.{bytes_eq}
use Rattle.serde_json.specs.Data.{Members, object}
use Rattle.promql_text.specs.Texts.{Text}
use Rattle.promql_text.specs.Values.{IsNumber}
use Rattle.promql_text.specs.declared.number.Number.{Number}
use Rattle.promql_token.specs.Ids.{is_one_of}
use Rattle.promql_kind.specs.Functions.{Signature, function_named, name_of}
use Rattle.promql_kind.specs.Modifiers.{Clause, Matching}
use Rattle.promql_ast.specs.Selectors.{Selector}
use Rattle.promql_ast.specs.Shifts.{Moment, Shift}
use Rattle.promql_ast.specs.Tree.{Tree, aggregate, unary, binary, paren, subquery, number, string, vector, matrix, call, extension, MaybeTree, Trees}
use Rattle.promql_ast.specs.declared.range_mode.RangeMode.{RangeMode}
use Rattle.promql_json.specs.Json.{json_value}
use Rattle.promql_json.specs.FormNames.{type_name}
use Rattle.promql_from_json.specs.Readable.{ReadableMoment}
use Rattle.promql_from_json.specs.ReadableBelow.{AllReadableBelow, MaybeReadableBelow, ReadableBelow, ReadableMatching, ReadableSelector}
use Rattle.promql_from_json.specs.declared.read_values.TheConstants.{AGGREGATORS, OPERATORS}

pub data Kind : Type 0 where
  of_aggregate : Kind
  of_unary : Kind
  of_binary : Kind
  of_paren : Kind
  of_subquery : Kind
  of_number : Kind
  of_string : Kind
  of_vector : Kind
  of_matrix : Kind
  of_call : Kind
  of_none : Kind

abbrev kind_of : Tree → Kind
kind_of (aggregate op e p m) = of_aggregate
kind_of (unary e) = of_unary
kind_of (binary op l r m) = of_binary
kind_of (paren e) = of_paren
kind_of (subquery e offset at range step) = of_subquery
kind_of (number v) = of_number
kind_of (string s) = of_string
kind_of (vector s) = of_vector
kind_of (matrix s range mode) = of_matrix
kind_of (call f args) = of_call
kind_of (extension name gives es) = of_none

-- the members are of no readable node of the kind
abbrev pub NoneOfKind : ℕ → Members → Kind → Type 0
NoneOfKind n ms of_aggregate = (op : ℕ) (t : Tree) (p : MaybeTree) (m : Option Clause) → is_one_of AGGREGATORS op ≡ true → MaybeReadableBelow n p → ReadableBelow n t
    → object ms ≢ json_value (aggregate op t p m)
NoneOfKind n ms of_unary = (t : Tree) → ReadableBelow n t → object ms ≢ json_value (unary t)
NoneOfKind n ms of_binary = (op : ℕ) (l r : Tree) (m : Option Matching) → is_one_of OPERATORS op ≡ true → ReadableMatching m → ReadableBelow n l → ReadableBelow n r
    → object ms ≢ json_value (binary op l r m)
NoneOfKind n ms of_paren = (t : Tree) → ReadableBelow n t → object ms ≢ json_value (paren t)
NoneOfKind n ms of_subquery = (t : Tree) (offset : Option Shift) (at : Option Moment) (range : ℕ) (step : Option ℕ) → ReadableMoment at → ReadableBelow n t
    → object ms ≢ json_value (subquery t offset at range step)
NoneOfKind n ms of_number = (v : Number) → IsNumber v → object ms ≢ json_value (number v)
NoneOfKind n ms of_string = (s : Text) → object ms ≢ json_value (string s)
NoneOfKind n ms of_vector = (s : Selector) → ReadableSelector s → object ms ≢ json_value (vector s)
NoneOfKind n ms of_matrix = (s : Selector) (range : ℕ) (mode : RangeMode) → ReadableSelector s → object ms ≢ json_value (matrix s range mode)
NoneOfKind n ms of_call = (f : Signature) (ts : Trees) → function_named (name_of f) ≡ Some f → AllReadableBelow n ts → object ms ≢ json_value (call f ts)
NoneOfKind n ms of_none = Unit {0}

none_of_kind : (n : ℕ) (ms : Members) (t : Tree) → ReadableBelow (suc n) t → NoneOfKind n ms (kind_of t) → object ms ≢ json_value t
none_of_kind n ms (aggregate op e p m) fine none = none op e p m fine.0 fine.1 fine.2
none_of_kind n ms (unary e) fine none = none e fine
none_of_kind n ms (binary op l r m) fine none = none op l r m fine.0 fine.1 fine.2 fine.3
none_of_kind n ms (paren e) fine none = none e fine
none_of_kind n ms (subquery e offset at range step) fine none = none e offset at range step fine.0 fine.1
none_of_kind n ms (number v) fine none = none v fine
none_of_kind n ms (string s) fine none = none s
none_of_kind n ms (vector s) fine none = none s fine
none_of_kind n ms (matrix s range mode) fine none = none s range mode fine
none_of_kind n ms (call f args) fine none = none f args fine.0 fine.1
none_of_kind n ms (extension name gives es) fine none = absurd fine

-- the kind beside a name
abbrev pub kind_in : List (Text × Kind) → Text → Kind
kind_in [] name = of_none
kind_in (row ∷ rows) name = if bytes_eq row.0 name then row.1 else kind_in rows name

abbrev pub kinds : List (Text × Kind)
kinds = (codes "aggregation", of_aggregate) ∷ (codes "unaryExpr", of_unary) ∷ (codes "binaryExpr", of_binary) ∷ (codes "parenExpr", of_paren)
    ∷ (codes "subquery", of_subquery) ∷ (codes "numberLiteral", of_number) ∷ (codes "stringLiteral", of_string) ∷ (codes "vectorSelector", of_vector)
    ∷ (codes "matrixSelector", of_matrix) ∷ (codes "call", of_call) ∷ []

kind_known : (t : Tree) → kind_in kinds (type_name t) ≡ kind_of t
kind_known (aggregate op e p m) = refl
kind_known (unary e) = refl
kind_known (binary op l r m) = refl
kind_known (paren e) = refl
kind_known (subquery e offset at range step) = refl
kind_known (number v) = refl
kind_known (string s) = refl
kind_known (vector s) = refl
kind_known (matrix s range mode) = refl
kind_known (call f args) = refl
kind_known (extension name gives es) = refl

-- no readable node has the members, where those of the kind that the type tells have not
pub no_node : (n : ℕ) (ms : Members) (name : Text) (t : Tree) → NoneOfKind n ms (kind_in kinds name) → name ≡ type_name t → ReadableBelow (n + 1) t → object ms ≢ json_value t
no_node n ms name t none is fine =
    none_of_kind n ms t (subst (λ k. ReadableBelow k t) (add-one n) fine) (subst (NoneOfKind n ms) (ap (kind_in kinds) is ∙ kind_known t) none)

-- a name that is none of these
not_same : (b : Bool) (xs ys : Text) → bytes_eq xs ys ≡ b → ys ≢ xs → b ≡ false
not_same true xs ys is other = absurd (other (sym ((bytes_eq-Decides xs ys).0 is)))
not_same false xs ys is other = refl

no_kind : (rows : List (Text × Kind)) (name : Text) → AllByRecursion (λ row. name ≢ row.0) rows → kind_in rows name ≡ of_none
no_kind [] name other = refl
no_kind (row ∷ rows) name other =
    ap (λ b. if b then row.1 else kind_in rows name) (not_same (bytes_eq row.0 name) row.0 name refl other.0) ∙ no_kind rows name other.1

pub no_other_node : (n : ℕ) (ms : Members) (name : Text) (t : Tree) → AllByRecursion (λ row. name ≢ row.0) kinds → name ≡ type_name t → ReadableBelow (n + 1) t → object ms ≢ json_value t
no_other_node n ms name t other is fine = no_node n ms name t (subst (NoneOfKind n ms) (sym (no_kind kinds name other)) tt) is fine
