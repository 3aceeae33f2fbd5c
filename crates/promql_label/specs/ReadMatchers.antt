-- The order in which matchers print, and what the tokens of a printed list mean: docs/reference/matchers.md,
-- "Printed lists" and "Printed lists read back".
use Rattle.std.specs.Prelude.{◌≡◌, ◌⊎◌, ℕ, ◌==◌, if◌then◌else◌, List, [], ◌∷◌, Some}
use Rattle.std.specs.List.{AllZip, slice_split}
use Rattle.std.specs.Ordering.{is_gt}
use Rattle.promql_text.specs.Quoting.{unquoted_text}
use Rattle.promql_text.specs.Texts.{Text}
use Rattle.promql_token.specs.declared.ids.TheConstants.{T_COMMA, T_EQL, T_EQL_REGEX, T_IDENTIFIER, T_LOR, T_NEQ, T_NEQ_REGEX, T_STRING}
use Rattle.promql_label.specs.PlainMatchers.{Operator, equal, not_equal, matches, matches_not, PlainMatcher, plain_matcher, PlainMatchers, plain_matchers, matcher_text}
use Rattle.promql_label.specs.SortedTexts.{text_order}

-- "Printed lists": the matchers in byte order of their texts: the law `sorted_matchers_are_one_list`
abbrev pub insert_matcher : PlainMatcher → List PlainMatcher → List PlainMatcher
insert_matcher c [] = c ∷ []
insert_matcher c (d ∷ ds) =
    if is_gt (text_order (matcher_text c) (matcher_text d)) then d ∷ insert_matcher c ds else c ∷ d ∷ ds

abbrev pub sorted_matchers : List PlainMatcher → List PlainMatcher
sorted_matchers [] = []
sorted_matchers (c ∷ cs) = insert_matcher c (sorted_matchers cs)

-- the normal form of a list of matchers (docs/reference/printing.md, "Normal form")
abbrev pub normal_matchers : PlainMatchers → PlainMatchers
normal_matchers (plain_matchers plain groups) = plain_matchers (sorted_matchers plain) groups

-- the groups that print; matchers without groups print as one group
abbrev pub printed_groups : PlainMatchers → List (List PlainMatcher)
printed_groups (plain_matchers plain []) = sorted_matchers plain ∷ []
printed_groups (plain_matchers plain (g ∷ groups)) = g ∷ groups

abbrev pub operator_id : Operator → ℕ
operator_id equal = T_EQL
operator_id not_equal = T_NEQ
operator_id (matches w) = T_EQL_REGEX
operator_id (matches_not w) = T_NEQ_REGEX

-- what a matcher prints: the id of its operator, its name and its value
abbrev pub parts_of : PlainMatcher → ℕ × Text × Text
parts_of (plain_matcher op name value) = (operator_id op, name, value)

-- a token, of its id and its text, is a string that means a text
abbrev pub IsString : ℕ × Text → Text → Type 0
IsString t s = (t.0 ≡ T_STRING) × (unquoted_text t.1 ≡ Some s)

-- a name, which is an identifier or a string, an operator and a string mean a matcher, but for its pattern
abbrev pub MeanMatcher : List (ℕ × Text) → PlainMatcher → Type 0
MeanMatcher (n ∷ o ∷ v ∷ []) (plain_matcher op name value) =
    ((n ≡ (T_IDENTIFIER, name)) ⊎ IsString n name) × (o.0 ≡ operator_id op) × IsString v value
MeanMatcher _ c = ⊥

-- no tokens mean a group without matchers, and others matchers between commas
abbrev pub MeanGroup : List (ℕ × Text) → List PlainMatcher → Type 0
MeanGroup ts cs = (ts ≡ []) × (cs ≡ []) ⊎ AllZip MeanMatcher (slice_split (λ t. t.0 == T_COMMA) ts) cs

-- groups are between `or`
abbrev pub MeanGroups : List (ℕ × Text) → List (List PlainMatcher) → Type 0
MeanGroups ts = AllZip MeanGroup (slice_split (λ t. t.0 == T_LOR) ts)
