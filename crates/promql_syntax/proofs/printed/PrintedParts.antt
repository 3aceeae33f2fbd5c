-- The parts of a printed tree that hold no expression (docs/reference/printing.md), as the grammar derives them.
use Rattle.std.specs.Prelude.{ℕ, ℤ, ◌%◌, ◌/◌, Bool, true, false, not, ◌&&◌, ◌==◌, if◌then◌else◌, Option, Some, None, option_map, List, [], ◌∷◌, ◌++◌, codes, unsigned_abs}
use Rattle.std.specs.Fmt.{decimal}
use Rattle.std.specs.Int.{is_negative}
use Rattle.promql_text.specs.Durations.{nanos_of}
use Rattle.promql_text.specs.DurationText.{duration_text}
use Rattle.promql_text.specs.NumberText.{number_text}
use Rattle.promql_text.specs.Quoting.{quoted_text}
use Rattle.promql_text.specs.Texts.{Text, code}
use Rattle.promql_text.specs.Values.{is_below_zero, neg}
use Rattle.promql_text.specs.declared.duration.Unit.TheVariants.{Milli}
use Rattle.promql_text.specs.declared.number.Number.{Number}
use Rattle.promql_token.specs.Classes.{is_label}
use Rattle.promql_token.specs.TokenScanning.{word_id}
use Rattle.promql_grammar.specs.declared.token_kinds.TokenKind.{TokenKind}
use Rattle.promql_grammar.specs.declared.token_kinds.TokenKind.TheVariants as kind
use Rattle.promql_grammar.specs.Symbols.{token_kind}
use Rattle.promql_grammar.specs.GrammarParts as part
use Rattle.promql_label.specs.Labels.{is_number_word, label_text}
use Rattle.promql_label.specs.PlainMatchers.{Operator, equal, not_equal, matches, matches_not, PlainMatcher, plain_matcher, PlainMatchers, plain_matchers, name_text}
use Rattle.promql_label.specs.ReadMatchers.{sorted_matchers}
use Rattle.promql_kind.specs.Modifiers.{Clause, including, excluding, Cardinality, one_to_one, many_to_one, one_to_many, many_to_many, Fills, fills, Matching, matching, is_grouping, number_eq}
use Rattle.promql_ast.specs.Normal.{normal_matched}
use Rattle.promql_ast.specs.Shifts.{Shift, back, ahead, Moment, at_start, at_end, at_time}

-- the kind of a word outside braces, where no parenthesis follows
unfoldable pub word_kind : Text → TokenKind
word_kind text = token_kind (word_id text [])

-- ---- numbers

abbrev pub sign : Bool → part.Signed
sign true = Some (true, (codes "-"))
sign false = None

-- the number without its sign
abbrev pub magnitude : Number → Number
magnitude n = if is_below_zero n then neg n else n

abbrev pub value : Number → part.FillValue
value n = (sign (is_below_zero n), number_text (magnitude n))

-- ---- times

-- whole milliseconds print with units, all others as seconds with a point
abbrev pub time : ℕ → part.Time
time n = if n % nanos_of Milli == 0 then part.duration (duration_text n) else part.seconds (duration_text n)

-- the seconds of a time, without its sign
unfoldable pub seconds_text : ℤ → Text
seconds_text t = let size = unsigned_abs t in
    decimal (size / 1000) ++ (code "." ∷ (decimal (size / 100 % 10) ++ (decimal (size / 10 % 10) ++ decimal (size % 10))))

abbrev pub moment : Moment → part.Postfix
moment at_start = part.at_bound true (codes "start")
moment at_end = part.at_bound false (codes "end")
moment (at_time t) = part.at_number (sign (is_negative t)) (seconds_text t)

abbrev pub shift : Shift → part.Postfix
shift (back n) = part.offset (codes "offset") (sign false) (time n)
shift (ahead n) = part.offset (codes "offset") (sign true) (time n)

-- ---- labels

abbrev pub label_kind : Text → TokenKind
label_kind l = if is_label l && not (is_number_word l) then word_kind l else kind.String

abbrev pub names : Text → List Text → part.Labels
names l [] = part.last (label_kind l) (label_text l)
names l (k ∷ ls) = part.next (label_kind l) (label_text l) (names k ls)

abbrev pub labels : List Text → part.Labels
labels [] = part.no_label
labels (l ∷ ls) = names l ls

abbrev pub clause : Option Clause → part.Clause
clause None = None
clause (Some (including [])) = None
clause (Some (including (l ∷ ls))) = Some (true, (true, (codes "by"), (labels (l ∷ ls))))
clause (Some (excluding ls)) = Some (true, (false, (codes "without"), (labels ls)))

-- ---- modifiers

-- a grouping word always has its list
abbrev pub group : Cardinality → part.Group
group one_to_one = None
group (many_to_one ls) = Some (true, (codes "group_left"), Some (labels ls))
group (one_to_many ls) = Some (false, (codes "group_right"), Some (labels ls))
group many_to_many = None

abbrev pub matching_of_clause : Option Clause → part.Group → part.Matching
matching_of_clause None g = None
matching_of_clause (Some (including ls)) g = Some (true, (codes "on"), (labels ls), g)
matching_of_clause (Some (excluding ls)) g = Some (false, (codes "ignoring"), (labels ls), g)

abbrev pub fill_words : Fills → part.Fills
fill_words (fills None None) = part.no_fill
fill_words (fills (Some r) None) = part.one false (codes "fill_right") (value r)
fill_words (fills None (Some l)) = part.one true (codes "fill_left") (value l)
fill_words (fills (Some r) (Some l)) =
    if number_eq l r then part.both (codes "fill") (value l)
    else part.two true (codes "fill_left") (value l) (codes "fill_right") (value r)

abbrev pub flag : Bool → Option Text
flag true = Some (codes "bool")
flag false = None

abbrev pub modifier : Option Matching → part.Modifier
modifier None = (None, None, part.no_fill)
modifier (Some (matching card c return_bool values)) =
    (flag return_bool, matching_of_clause (normal_matched (is_grouping card) c) (group card), fill_words values)

-- ---- matchers

abbrev pub match_operator : Operator → part.MatchOperator
match_operator equal = part.equal
match_operator not_equal = part.not_equal (codes "!=")
match_operator (matches w) = part.equal_regex
match_operator (matches_not w) = part.not_equal_regex

abbrev pub is_quoted : Text → Bool
is_quoted name = not (is_label name)

abbrev pub matcher_kind : Text → TokenKind
matcher_kind name = part.name_kind (is_quoted name)

abbrev pub item : PlainMatcher → part.Item
item (plain_matcher op name text) = part.matcher (is_quoted name) (name_text name) (match_operator op) (quoted_text text)

-- the items from a matcher on, with those of further groups
abbrev pub items_of : part.Item → Option (part.Separator × part.Items) → part.Items
items_of i None = part.last_item i false
items_of i (Some (s, is)) = part.next_item i s is

abbrev pub group_items : PlainMatcher → List PlainMatcher → Option (part.Separator × part.Items) → part.Items
group_items c [] more = items_of (item c) more
group_items c (d ∷ ds) more = part.next_item (item c) None (group_items d ds more)

abbrev pub or_items : List (List PlainMatcher) → Option (part.Separator × part.Items)
or_items [] = None
or_items ([] ∷ groups) = or_items groups
or_items ((c ∷ cs) ∷ groups) = Some (Some (codes "or"), group_items c cs (or_items groups))

abbrev pub any_items : List PlainMatcher → Option part.Braces
any_items [] = None
any_items (c ∷ cs) = Some (Some (group_items c cs None))

-- the matchers in order of their texts; where there are groups, these alone
abbrev pub braces : PlainMatchers → Option part.Braces
braces (plain_matchers plain []) = any_items (sorted_matchers plain)
braces (plain_matchers plain (g ∷ groups)) = option_map (λ x. Some x.1) (or_items (g ∷ groups))
