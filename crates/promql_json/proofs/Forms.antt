-- Where there is a form.
use Rattle.std.proofs.Common.{◌≡◌, ◌↔◌, Option, Some, None, Ok, refl, ap}
use Rattle.std.specs.Option.{option_or}
use Rattle.serde_json.specs.Data.{Data}
use Rattle.promql_ast.specs.Fold.{within, maybe_within, all_within}
use Rattle.promql_ast.specs.Tree.{Tree, aggregate, unary, binary, paren, subquery, number, string, vector, matrix, call, extension, MaybeTree, absent, present, Trees, no_trees, first_tree}
use Rattle.promql_json.specs.declared.error.JsonError.{JsonError}
use Rattle.promql_json.specs.Json.{AtEachNode, own_fault, first_fault, json, json_value}
use Rattle.promql_json.specs.FormNames.{unless}

abbrev Fits : Tree → Type 0
Fits t = own_fault t ≡ None

abbrev FitsWithin : Tree → Type 0
FitsWithin = within (Unit {0}) (λ A B. A × B) (λ t below. Fits t × below)

abbrev MaybeFits : MaybeTree → Type 0
MaybeFits = maybe_within (Unit {0}) (λ A B. A × B) (λ t below. Fits t × below)

abbrev AllFit : Trees → Type 0
AllFit = all_within (Unit {0}) (λ A B. A × B) (λ t below. Fits t × below)

abbrev fault_within : Tree → Option JsonError
fault_within = within None option_or (λ t below. option_or (own_fault t) below)

abbrev maybe_fault : MaybeTree → Option JsonError
maybe_fault = maybe_within None option_or (λ t below. option_or (own_fault t) below)

abbrev all_faults : Trees → Option JsonError
all_faults = all_within None option_or (λ t below. option_or (own_fault t) below)

both_none : (a b : Option JsonError) → option_or a b ≡ None → (a ≡ None) × (b ≡ None)
both_none None b h = (refl, h)
both_none (Some e) b h = absurd cc

none_after : (a b : Option JsonError) → a ≡ None → b ≡ None → option_or a b ≡ None
none_after None b h k = k
none_after (Some e) b h k = absurd cc

-- ---- no fault, so each node fits

node_fits : (t : Tree) → (fault_within t ≡ None → FitsWithin t) → first_fault t ≡ None → AtEachNode Fits t
node_fits t inside h = let both = both_none (own_fault t) (fault_within t) h in (both.0, inside both.1)

mutual
  all_fit : (t : Tree) → fault_within t ≡ None → FitsWithin t
  all_fit (aggregate op e p m) h = let both = both_none (maybe_fault p) (first_fault e) h in (param_fits p both.0, node_fits e (all_fit e) both.1)
  all_fit (unary e) h = node_fits e (all_fit e) h
  all_fit (binary op l r m) h = let both = both_none (first_fault l) (first_fault r) h in (node_fits l (all_fit l) both.0, node_fits r (all_fit r) both.1)
  all_fit (paren e) h = node_fits e (all_fit e) h
  all_fit (subquery e offset at range step) h = node_fits e (all_fit e) h
  all_fit (number n) h = tt
  all_fit (string s) h = tt
  all_fit (vector s) h = tt
  all_fit (matrix s range mode) h = tt
  all_fit (call f args) h = args_fit args h
  all_fit (extension name gives es) h = args_fit es h

  param_fits : (p : MaybeTree) → maybe_fault p ≡ None → MaybeFits p
  param_fits absent h = tt
  param_fits (present e) h = node_fits e (all_fit e) h

  args_fit : (ts : Trees) → all_faults ts ≡ None → AllFit ts
  args_fit no_trees h = tt
  args_fit (first_tree e es) h = let both = both_none (first_fault e) (all_faults es) h in (node_fits e (all_fit e) both.0, args_fit es both.1)

-- ---- each node fits, so there is no fault

none_from : (t : Tree) → (FitsWithin t → fault_within t ≡ None) → AtEachNode Fits t → first_fault t ≡ None
none_from t inside h = none_after (own_fault t) (fault_within t) h.0 (inside h.1)

mutual
  none_below : (t : Tree) → FitsWithin t → fault_within t ≡ None
  none_below (aggregate op e p m) h = none_after (maybe_fault p) (first_fault e) (none_in_param p h.0) (none_from e (none_below e) h.1)
  none_below (unary e) h = none_from e (none_below e) h
  none_below (binary op l r m) h = none_after (first_fault l) (first_fault r) (none_from l (none_below l) h.0) (none_from r (none_below r) h.1)
  none_below (paren e) h = none_from e (none_below e) h
  none_below (subquery e offset at range step) h = none_from e (none_below e) h
  none_below (number n) h = refl
  none_below (string s) h = refl
  none_below (vector s) h = refl
  none_below (matrix s range mode) h = refl
  none_below (call f args) h = none_in_args args h
  none_below (extension name gives es) h = none_in_args es h

  none_in_param : (p : MaybeTree) → MaybeFits p → maybe_fault p ≡ None
  none_in_param absent h = refl
  none_in_param (present e) h = none_from e (none_below e) h

  none_in_args : (ts : Trees) → AllFit ts → all_faults ts ≡ None
  none_in_args no_trees h = refl
  none_in_args (first_tree e es) h = none_after (first_fault e) (all_faults es) (none_from e (none_below e) h.0) (none_in_args es h.1)

form_has_none : (f : Option JsonError) (v d : Data) → unless f v ≡ Ok d → f ≡ None
form_has_none None v d h = refl
form_has_none (Some e) v d h = absurd cc

pub forms : (t : Tree) → ((d : Data) × (json t ≡ Ok d)) ↔ AtEachNode Fits t
forms t = (
  λ (form : (d : Data) × (json t ≡ Ok d)). node_fits t (all_fit t) (form_has_none (first_fault t) (json_value t) form.0 form.1),
  λ (fits : AtEachNode Fits t). (json_value t, ap (λ f. unless f (json_value t)) (none_from t (none_below t) fits)),
)
