-- What the parts of an expression build (docs/reference/grammar.md, "Building"): each from left to right, up to its
-- first error.
use Rattle.std.specs.Prelude.{ℕ, if◌then◌else◌, Option, Some, None, is_some, ok_or, List, [], ◌∷◌, Result, Ok, codes}
use Rattle.std.specs.Option.{option_map_or}
use Rattle.std.specs.Result.{result_map_both}
use Rattle.promql_text.specs.Texts.{Text}
use Rattle.promql_text.specs.declared.number.Number.{Number}
use Rattle.promql_text.specs.Durations.{duration_of}
use Rattle.promql_text.specs.NumberText.{read_number}
use Rattle.promql_text.specs.Quoting.{unquoted_text}
use Rattle.promql_text.specs.Values.{neg}
use Rattle.promql_grammar.specs.declared.token_kinds.TokenKind.{TokenKind}
use Rattle.promql_grammar.specs.declared.token_kinds.TokenKind.TheVariants as kind
use Rattle.promql_grammar.specs.Results.{on_result, ◌then◌}
use Rattle.promql_grammar.specs.GrammarParts as part
use Rattle.promql_grammar.specs.GrammarParts.{is_minus}
use Rattle.promql_label.specs.Answers.{Answer, built, rejected}
use Rattle.promql_label.specs.PlainMatchers.{Operator, equal, not_equal, matches, matches_not, PlainMatcher, plain_matcher, PlainMatchers, plain_matchers, append_plain, appended_or}
use Rattle.promql_kind.specs.Modifiers.{Clause, including, excluding, Cardinality, one_to_one, many_to_one, one_to_many, Fills, fills, Matching, matching}
use Rattle.promql_ast.specs.AtTimes.{at_of_number}
use Rattle.promql_ast.specs.Shifts.{Shift, back, ahead, Moment, moment_of}
use Rattle.promql_syntax.specs.Asking.{Asking, gives, fails, asks, ◌giving◌, known}
use Rattle.promql_syntax.specs.BuildErrors.{BuildError, number, quoted, duration, at, pattern}

-- a value, or the fault as another error
abbrev pub on_error : {A E F : Type 0} → (F → E) → Result A F → Result A E
on_error error result = result_map_both (λ x. x) error result

-- the value of a part, if there is one
abbrev pub if_given : {A B : Type 0} → (A → Result B BuildError) → Option A → Result (Option B) BuildError
if_given value part = option_map_or (λ x. value x then λ y. Ok (Some y)) part (Ok None)

-- "Strings"
abbrev pub string_value : Text → Result Text BuildError
string_value text = ok_or (unquoted_text text) quoted

-- "Numbers" and "Signs"
abbrev pub signed_number : part.Signed → Text → Result Number BuildError
signed_number s text = on_error number (read_number text) then λ n. Ok (if is_minus s then neg n else n)

-- "Times": nanoseconds
abbrev pub time_value : part.Time → Result ℕ BuildError
time_value (part.seconds text) = on_error duration (duration_of text)
time_value (part.duration text) = on_error duration (duration_of text)

-- "Labels": a string means its text
abbrev pub label_value : TokenKind → Text → Result Text BuildError
label_value kind.String text = string_value text
label_value k text = Ok text

abbrev pub label_values : part.Labels → Result (List Text) BuildError
label_values part.no_label = Ok []
label_values (part.last k text) = label_value k text then λ l. Ok (l ∷ [])
label_values (part.next k text ls) = label_value k text then λ l. label_values ls then λ more. Ok (l ∷ more)

-- "Clauses"
abbrev pub grouping_value : part.Grouping → Result Clause BuildError
grouping_value (by, text, ls) = label_values ls then λ x. Ok (if by then including x else excluding x)

-- "Modifiers"
abbrev pub group_value : part.Group → Result Cardinality BuildError
group_value None = Ok one_to_one
group_value (Some (left, text, ls)) = option_map_or label_values ls (Ok []) then λ x. Ok (if left then many_to_one x else one_to_many x)

abbrev pub matching_value : part.Matching → Result (Cardinality × Option Clause) BuildError
matching_value None = Ok (one_to_one, None)
matching_value (Some (on, text, ls, g)) = label_values ls then λ x. group_value g then λ c. Ok (c, Some (if on then including x else excluding x))

-- the right side's value comes first
abbrev pub fills_value : part.Fills → Result Fills BuildError
fills_value part.no_fill = Ok (fills None None)
fills_value (part.both text v) = signed_number v.0 v.1 then λ n. Ok (fills (Some n) (Some n))
fills_value (part.one left text v) = signed_number v.0 v.1 then λ n. Ok (if left then fills None (Some n) else fills (Some n) None)
fills_value (part.two left text v text' w) =
    signed_number v.0 v.1 then λ n. signed_number w.0 w.1 then λ m. Ok (if left then fills (Some m) (Some n) else fills (Some n) (Some m))

-- none, where nothing comes between the operator and its right side
abbrev pub modifier_value : part.Modifier → Result (Option Matching) BuildError
modifier_value (None, None, part.no_fill) = Ok None
modifier_value (flag, m, f) = matching_value m then λ c. fills_value f then λ v. Ok (Some (matching c.0 c.1 (is_some flag) v))

-- "Selectors": each matcher whole before the next, a pattern after its string
abbrev pub pattern_operator : (Text → Operator) → Text → Answer → Asking Operator
pattern_operator operator value (built w) = gives (operator w)
pattern_operator operator value rejected = fails (pattern value)

abbrev pub operator_value : part.MatchOperator → Text → Asking Operator
operator_value part.equal value = gives equal
operator_value (part.not_equal text) value = gives not_equal
operator_value part.equal_regex value = asks value (pattern_operator matches value)
operator_value part.not_equal_regex value = asks value (pattern_operator matches_not value)

abbrev pub item_value : part.Item → Asking PlainMatcher
item_value (part.matcher is_quoted text s string) =
    known (label_value (if is_quoted then kind.String else kind.Identifier) text) giving λ name. known (string_value string) giving λ value.
    operator_value s value giving λ op. gives (plain_matcher op name value)
item_value (part.lone text) = known (string_value text) giving λ name. gives (plain_matcher equal (codes "__name__") name)

abbrev pub append_matcher : Option Text → PlainMatchers → PlainMatcher → PlainMatchers
append_matcher s = if is_some s then appended_or else append_plain

-- the matchers so far, and what comes before the next
abbrev pub items_value : PlainMatchers → Option Text → part.Items → Asking PlainMatchers
items_value cs s (part.last_item i comma) = item_value i giving λ c. gives (append_matcher s cs c)
items_value cs s (part.next_item i t is) = item_value i giving λ c. items_value (append_matcher s cs c) t is

abbrev pub braces_value : part.Braces → Asking PlainMatchers
braces_value b = option_map_or (items_value (plain_matchers [] []) None) b (gives (plain_matchers [] []))

-- Words for parts of these, which proofs and private definitions have: nothing rests on believing them.
abbrev pub number_value : Text → Result Number BuildError
number_value text = on_error number (read_number text)

abbrev pub duration_value : Text → Result ℕ BuildError
duration_value text = on_error duration (duration_of text)

abbrev pub shift_value : part.Signed → part.Time → Result Shift BuildError
shift_value s t = time_value t then λ n. Ok (if is_minus s then ahead n else back n)

abbrev pub moment_value : part.Signed → Text → Result Moment BuildError
moment_value s text = signed_number s text then λ n. on_error at (on_result moment_of (at_of_number n))

abbrev pub fill_value : part.FillValue → Result Number BuildError
fill_value (s, text) = signed_number s text
