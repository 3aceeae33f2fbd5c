-- The parts of what is seen, and stores that tell selectors apart.
use Rattle.std.proofs.Common.{◌≡◌, ◌≢◌, ℕ, refl, sym, ◌∙◌, ap, Bool, true, false, true≢false, cond, Option, None, List, [], ◌∷◌}
use Rattle.promql_text.specs.Texts.{Text}
use Rattle.promql_kind.specs.Functions.{Signature}
use Rattle.promql_kind.specs.Modifiers.{Clause, Matching, including}
use Rattle.promql_kind.specs.declared.value.ValueType.{ValueType}
use Rattle.promql_ast.specs.Selectors.{Selector, selector}
use Rattle.promql_ast.specs.Shifts.{Shift, Moment}
use Rattle.promql_ast.specs.Tree.{Tree, string, vector}
use Rattle.promql_ast.specs.declared.range_mode.RangeMode.{RangeMode}
use Rattle.promql_ast.specs.declared.range_mode.RangeMode.TheVariants.{Plain}
use Rattle.promql_rewrite.specs.Selecting.{Series, selects}
use Rattle.promql_meaning.specs.Seen.{Beside, Seen, Seens, aggregated, called, extended, instants, joined, literal, negated, none_seen, nothing, operated, ranges, seen, stepped}
use Rattle.promql_meaning.specs.Stores.{Stored, Store, read}

abbrev pub op_in : Seen → ℕ
op_in (aggregated op e p clause) = op
op_in (operated op l r j) = op
op_in s = 0

abbrev pub expr_in : Seen → Seen
expr_in (aggregated op e p clause) = e
expr_in (negated e) = e
expr_in (operated op l r j) = l
expr_in (stepped e offset at range step) = e
expr_in s = s

abbrev pub right_in : Seen → Seen
right_in (operated op l r j) = r
right_in s = s

abbrev pub args_in : Seen → Seens
args_in (aggregated op e p clause) = p
args_in (called f b es) = es
args_in (extended name gives es) = es
args_in s = none_seen

abbrev pub clause_in : Seen → Clause
clause_in (aggregated op e p clause) = clause
clause_in s = including []

abbrev pub matching_in : Seen → Matching
matching_in (operated op l r j) = j
matching_in s = joined None

abbrev pub offset_in : Seen → Option Shift
offset_in (stepped e offset at range step) = offset
offset_in (instants xs offset at) = offset
offset_in (ranges xs offset at range mode) = offset
offset_in s = None

abbrev pub at_in : Seen → Option Moment
at_in (stepped e offset at range step) = at
at_in (instants xs offset at) = at
at_in (ranges xs offset at range mode) = at
at_in s = None

abbrev pub range_in : Seen → ℕ
range_in (stepped e offset at range step) = range
range_in (ranges xs offset at range mode) = range
range_in s = 0

abbrev pub step_in : Seen → Option ℕ
step_in (stepped e offset at range step) = step
step_in s = None

abbrev pub mode_in : Seen → RangeMode
mode_in (ranges xs offset at range mode) = mode
mode_in s = Plain

abbrev pub series_in : Seen → Store
series_in (instants xs offset at) = xs
series_in (ranges xs offset at range mode) = xs
series_in s = []

abbrev pub literal_in : Seen → Tree
literal_in (literal t) = t
literal_in s = string []

abbrev pub beside_in : Seen → Beside
beside_in (called f b es) = b
beside_in s = nothing

abbrev pub name_in : Seen → Text
name_in (extended name gives es) = name
name_in s = []

-- of a call and of an extension; this one of all others
abbrev pub function_in : Signature → Seen → Signature
function_in other (called f b es) = f
function_in other s = other

abbrev pub type_in : ValueType → Seen → ValueType
type_in other (extended name gives es) = gives
type_in other s = other

-- the store with one series of these labels
abbrev pub one_series : Series → Store
one_series labels = record { labels = labels; samples = [] } ∷ []

abbrev is_any : Store → Bool
is_any [] = false
is_any (x ∷ xs) = true

selects_one : (s : Selector) (labels : Series) (b : Bool) → selects s labels ≡ b → is_any (read s (one_series labels)) ≡ b
selects_one s labels true is = ap (λ b. is_any (cond b (one_series labels) [])) is
selects_one s labels false is = ap (λ b. is_any (cond b (one_series labels) [])) is

series_of_vector : (s : Selector) (store : Store) → series_in (seen store (vector s)) ≡ read s store
series_of_vector (selector name cs offset at) store = refl

-- of two selectors, of which one selects the series and the other does not, different series are seen
pub seen_apart : (a b : Selector) (labels : Series) → selects a labels ≡ true → selects b labels ≡ false
    → seen (one_series labels) (vector a) ≢ seen (one_series labels) (vector b)
seen_apart a b labels found missed same =
    true≢false (sym (selects_one a labels true found)
    ∙ ap is_any (sym (series_of_vector a (one_series labels)) ∙ ap series_in same ∙ series_of_vector b (one_series labels))
    ∙ selects_one b labels false missed)
