-- What a server rejects of a query that these rules accept (docs/reference/targets.md).
use Rattle.std.specs.Prelude.{ℕ, ◌+◌, ◌-◌, ◌^◌, Bool, true, false, ◌&&◌, ◌||◌, ◌==◌, not, nat_lt, if◌then◌else◌, List, [], ◌∷◌, ◌++◌, bytes_eq, codes, drop, map, Option, Some, None, option_map, option_to_list, Result, Ok, Err, slice_get, take}
use Rattle.std.specs.List.{list_any}
use Rattle.promql_text.specs.Durations.{duration_of}
use Rattle.promql_text.specs.Texts.{Text}
use Rattle.promql_text.specs.declared.duration.DurationFault.{DurationFault}
use Rattle.promql_token.specs.Cursor.{tokens_up_to_fault}
use Rattle.promql_token.specs.declared.ids.TheConstants.{T_ADD, T_ANCHORED, T_ATAN2, T_BY, T_DURATION, T_EQL, T_EQL_REGEX, T_FILL, T_FILL_LEFT, T_FILL_RIGHT, T_LEFT_BRACE, T_LEFT_BRACKET, T_LEFT_PAREN, T_LIMITK, T_LIMIT_RATIO, T_LOR, T_NEQ, T_NEQ_REGEX, T_NUMBER, T_RIGHT_BRACE, T_RIGHT_PAREN, T_SMOOTHED, T_STRING, T_WITHOUT}
use Rattle.promql_grammar.specs.Symbols.{is_plus_or_minus}
use Rattle.promql_span.specs.Differences.{Tokens, after_signs, comes_first, is_before_operand}
use Rattle.promql_span.specs.PlacedTokens.{first_span, placed_tokens}
use Rattle.promql_span.specs.declared.differences.Printed.{Printed}
use Rattle.promql_span.specs.declared.differences.Printed.TheVariants.{Nothing}
use Rattle.promql_span.specs.declared.limits.Limits.{Limits}
use Rattle.promql_span.specs.declared.target.Target.{Target}
use Rattle.promql_span.specs.declared.target.Target.TheVariants.{Prometheus2, Prometheus3, Rules}
use Rattle.promql_target.specs.Areas.{after, has_labels, is_after_operand, is_before_time, start}
use Rattle.promql_target.specs.declared.area.Area.{Area}
use Rattle.promql_target.specs.declared.area.Area.TheVariants as area
use Rattle.promql_target.specs.declared.area.Place.{Place}
use Rattle.promql_target.specs.declared.refusal.Refusal.{Refusal}
use Rattle.promql_target.specs.declared.refusal.RefusalKind.{RefusalKind}
use Rattle.promql_target.specs.declared.refusal.RefusalKind.TheVariants as kind

abbrev pub is_one_of : List ℕ → ℕ → Bool
is_one_of ids id = list_any (λ k. id == k) ids

abbrev pub is_named : List Text → Text → Bool
is_named names name = list_any (bytes_eq name) names

abbrev pub found_if : RefusalKind → Bool → Option RefusalKind
found_if k is = if is then Some k else None

-- ---- strings

-- the names of metrics and labels, but for the values of matchers
abbrev pub is_name_in : Area → ℕ → Bool
is_name_in area.Braces before = not (is_one_of (T_EQL ∷ T_NEQ ∷ T_EQL_REGEX ∷ T_NEQ_REGEX ∷ []) before)
is_name_in a before = has_labels a

abbrev pub is_for_name : Place → Bool
is_for_name place = is_name_in place.area place.before

-- U+FFFD in UTF-8
abbrev pub has_replacement_character : Text → Bool
has_replacement_character [] = false
has_replacement_character (b ∷ z) = (b == 239 && bytes_eq (take 2 z) (191 ∷ 189 ∷ [])) || has_replacement_character z

abbrev pub string_kind : Place → Text → Option RefusalKind
string_kind place z =
    if is_for_name place then Some kind.QuotedName else found_if kind.ReplacementCharacter (has_replacement_character z)

-- ---- lengths of time

abbrev pub is_past_63_bits : Result ℕ DurationFault → Bool
is_past_63_bits (Ok nanos) = nat_lt (2 ^ 63 - 1) nanos
is_past_63_bits (Err e) = false

abbrev pub is_long : Text → Bool
is_long duration = is_past_63_bits (duration_of duration)

abbrev pub duration_kind : Place → Text → Option RefusalKind
duration_kind place z =
    if is_long z then Some kind.LongDuration else found_if kind.DurationForNumber (not (is_before_time place))

-- ---- pluses

-- the tokens after signs and opening parentheses
abbrev pub in_signs : Tokens → Tokens
in_signs [] = []
in_signs (t ∷ ts) = if is_plus_or_minus t.0 || t.0 == T_LEFT_PAREN then in_signs ts else t ∷ ts

abbrev pub after_brace : Tokens → Tokens
after_brace [] = []
after_brace (t ∷ ts) = if t.0 == T_RIGHT_BRACE then ts else after_brace ts

abbrev pub past_token : Tokens → Tokens
past_token [] = []
past_token (t ∷ ts) = ts

abbrev pub after_braces : Tokens → Tokens
after_braces ts = if comes_first T_LEFT_BRACE ts then after_brace ts else ts

-- the tokens after a name and braces, or after one of the two
abbrev pub after_selector : Tokens → Tokens
after_selector ts = if comes_first T_LEFT_BRACE ts then after_brace ts else after_braces (past_token ts)

-- a string, or a selector with a range
abbrev pub begins_with_value : Tokens → Bool
begins_with_value ts = comes_first T_STRING ts || comes_first T_LEFT_BRACKET (after_selector ts)

abbrev pub plus_kind : Place → Tokens → Option RefusalKind
plus_kind place ts =
    if place.in_offset then Some kind.PlusAfterOffset
    else found_if kind.PlusBeforeValue (is_before_operand place.before && begins_with_value (in_signs ts))

-- ---- words

-- "Later functions"
abbrev pub is_later : Text → Bool
is_later = is_named (
    codes "double_exponential_smoothing" ∷ codes "end" ∷ codes "first_over_time" ∷ codes "histogram_avg" ∷ codes "histogram_quantiles"
    ∷ codes "histogram_stddev" ∷ codes "histogram_stdvar" ∷ codes "info" ∷ codes "mad_over_time" ∷ codes "max_of" ∷ codes "min_of"
    ∷ codes "range" ∷ codes "sort_by_label" ∷ codes "sort_by_label_desc" ∷ codes "start" ∷ codes "step" ∷ codes "ts_of_first_over_time"
    ∷ codes "ts_of_last_over_time" ∷ codes "ts_of_max_over_time" ∷ codes "ts_of_min_over_time" ∷ [])

abbrev pub is_logarithm : Text → Bool
is_logarithm = is_named (codes "exp" ∷ codes "ln" ∷ codes "log2" ∷ codes "log10" ∷ [])

-- a number alone in parentheses
abbrev pub is_number : Tokens → Bool
is_number ts = (comes_first T_NUMBER ts || comes_first T_DURATION ts) && comes_first T_RIGHT_PAREN (past_token ts)

-- of a call with these arguments
abbrev pub call_kind : Text → Tokens → Option RefusalKind
call_kind name arguments =
    if is_later name then Some kind.LaterFunction
    else found_if kind.NumberForVector (is_logarithm name && is_number (after_signs arguments))

abbrev pub is_aggregation : Tokens → Bool
is_aggregation ts = comes_first T_LEFT_PAREN ts || (comes_first T_BY ts || comes_first T_WITHOUT ts)

-- of a word with which an operand begins
abbrev pub operand_kind : ℕ × Text → Tokens → Option RefusalKind
operand_kind t ts =
    if t.0 == T_ATAN2 then Some kind.BareAtan2 else
    if is_one_of (T_FILL ∷ T_FILL_LEFT ∷ T_FILL_RIGHT ∷ []) t.0 && comes_first T_LEFT_PAREN ts then Some kind.Fill else
    if is_one_of (T_LIMITK ∷ T_LIMIT_RATIO ∷ []) t.0 && is_aggregation ts then Some kind.LaterAggregator else
    if comes_first T_LEFT_PAREN ts then call_kind t.1 (past_token ts) else None

-- of a word in an area
abbrev pub word_in : Area → Place → ℕ × Text → Tokens → Option RefusalKind
word_in area.Braces place t ts = found_if kind.OrGroup (t.0 == T_LOR && place.before == T_STRING)
word_in area.Brackets place t ts = None
word_in area.Open place t ts =
    if is_after_operand place then found_if kind.RangeMode (is_one_of (T_SMOOTHED ∷ T_ANCHORED ∷ []) t.0) else operand_kind t ts
word_in labels place t ts = found_if kind.LabelWithout (t.0 == T_WITHOUT)

abbrev pub word_kind : Place → ℕ × Text → Tokens → Option RefusalKind
word_kind place = word_in place.area place

-- ---- the parts that are rejected

-- what is rejected at this token, which has others after it
abbrev pub kind_at : Place → ℕ × Text → Tokens → Option RefusalKind
kind_at place t ts =
    if t.0 == T_STRING then string_kind place t.1 else
    if t.0 == T_DURATION then duration_kind place t.1 else
    if t.0 == T_NUMBER then found_if kind.NumberForTime (is_before_time place) else
    if t.0 == T_ADD then plus_kind place ts else word_kind place t ts

-- a later version rejects it, too
abbrev pub is_lasting : RefusalKind → Bool
is_lasting kind.OrGroup = true
is_lasting kind.LongDuration = true
is_lasting kind.PlusBeforeValue = true
is_lasting kind.ReplacementCharacter = true
is_lasting kind.NumberForVector = true
is_lasting k = false

abbrev pub is_of : Target → RefusalKind → Bool
is_of Prometheus2 k = true
is_of Prometheus3 k = is_lasting k
is_of Rules k = false

abbrev pub counted : Target → Option RefusalKind → Option RefusalKind
counted target None = None
counted target (Some k) = if is_of target k then Some k else None

-- all of them, each with the number of its token; `n` is that of the first
abbrev pub kinds : Target → ℕ → Place → Tokens → List (ℕ × RefusalKind)
kinds target n place [] = []
kinds target n place (t ∷ ts) =
    option_to_list (option_map (λ k. (n, k)) (counted target (kind_at place t ts))) ++ kinds target (n + 1) (after place t.0) ts

abbrev pub kinds_of : Target → Text → List (ℕ × RefusalKind)
kinds_of target s = kinds target 0 start (tokens_up_to_fault s)

abbrev pub refusal_at : Text → ℕ × RefusalKind → Refusal
refusal_at s (n, k) = record { kind = k; span = first_span s (drop n (placed_tokens s)) }

abbrev pub refusals : Target → Text → List Refusal
refusals target s = map (refusal_at s) (kinds_of target s)

abbrev pub first_refusal : Target → Text → Option Refusal
first_refusal target s = slice_get (refusals target s) 0

-- what reads a query that is checked; any other may have parts that its target rejects
abbrev pub checked_by : Printed → Target → Target
checked_by Nothing target = target
checked_by printed target = Rules

-- the first part that the target rejects, where the query is checked
abbrev pub refusal : Limits → Text → Option Refusal
refusal limits s = first_refusal (checked_by limits.printed limits.target) s
