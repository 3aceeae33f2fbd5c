-- Matchers and their lists, as plain data: docs/reference/matchers.md, "Matchers" and "Lists of matchers".
use Rattle.std.specs.Prelude.{Bool, not, if◌then◌else◌, List, [], ◌∷◌, ◌++◌, Option, filter, find, map, option_map, codes}
use Rattle.std.specs.List.{flat_map, list_all}
use Rattle.std.specs.Str.{bytes_eq}
use Rattle.promql_text.specs.Quoting.{quoted_text}
use Rattle.promql_token.specs.Classes.{is_label}
use Rattle.promql_label.specs.Answers.{finds}
use Rattle.promql_label.specs.SortedTexts.{sorted_texts}
use Rattle.promql_text.specs.Texts.{Text, joined_text}

-- what a matcher compares by; a pattern is its built text
pub data Operator : Type 0 where
  equal not_equal : Operator
  matches matches_not : Text → Operator

-- a matcher: its operator, the label's name, and the value
pub data PlainMatcher : Type 0 where
  plain_matcher : Operator → Text → Text → PlainMatcher

-- a list of matchers: the plain ones, and the or-groups
pub data PlainMatchers : Type 0 where
  plain_matchers : List PlainMatcher → List (List PlainMatcher) → PlainMatchers

abbrev pub name_of : PlainMatcher → Text
name_of (plain_matcher op name value) = name

abbrev pub value_of : PlainMatcher → Text
value_of (plain_matcher op name value) = value

-- "Matching": whether the matcher matches a text
abbrev pub holds : PlainMatcher → Text → Bool
holds (plain_matcher equal name value) z = bytes_eq value z
holds (plain_matcher not_equal name value) z = not (bytes_eq value z)
holds (plain_matcher (matches w) name value) z = finds w z
holds (plain_matcher (matches_not w) name value) z = not (finds w z)

-- "Printed matchers": the law `operators_print_as_their_tokens`
abbrev pub operator_text : Operator → Text
operator_text equal = codes "="
operator_text not_equal = codes "!="
operator_text (matches w) = codes "=~"
operator_text (matches_not w) = codes "!~"

abbrev pub name_text : Text → Text
name_text name = if is_label name then name else quoted_text name

abbrev pub matcher_text : PlainMatcher → Text
matcher_text (plain_matcher op name value) = name_text name ++ (operator_text op ++ quoted_text value)

-- "Lists of matchers": all of them, the plain ones first, then the groups in order
abbrev pub every : PlainMatchers → List PlainMatcher
every (plain_matchers plain groups) = plain ++ flat_map (λ g. g) groups

-- the list with c after the last group
abbrev pub grown : List (List PlainMatcher) → PlainMatcher → List (List PlainMatcher)
grown [] c = []
grown (g ∷ []) c = (g ++ c ∷ []) ∷ []
grown (g ∷ h ∷ groups) c = g ∷ grown (h ∷ groups) c

-- "Appending": to the last group if there is one, else to the plain ones
abbrev pub append_plain : PlainMatchers → PlainMatcher → PlainMatchers
append_plain (plain_matchers plain []) c = plain_matchers (plain ++ c ∷ []) []
append_plain (plain_matchers plain (g ∷ groups)) c = plain_matchers plain (grown (g ∷ groups) c)

-- "Appending with `or`": plain ones become the last group first, if there are any; then c is a group of its own
abbrev pub appended_or : PlainMatchers → PlainMatcher → PlainMatchers
appended_or (plain_matchers [] groups) c = plain_matchers [] (groups ++ (c ∷ []) ∷ [])
appended_or (plain_matchers (p ∷ plain) groups) c = plain_matchers [] (groups ++ (p ∷ plain) ∷ (c ∷ []) ∷ [])

-- "Finding": all matchers of this name, and the value of the first
abbrev pub is_of : Text → PlainMatcher → Bool
is_of name c = bytes_eq (name_of c) name

abbrev pub find_plain : PlainMatchers → Text → List PlainMatcher
find_plain cs name = filter (is_of name) (every cs)

abbrev pub found_value : PlainMatchers → Text → Option Text
found_value cs name = option_map value_of (find (is_of name) (every cs))

-- "Empty matchers": every one matches the empty text
abbrev pub all_match_empty : PlainMatchers → Bool
all_match_empty cs = list_all (λ c. holds c []) (every cs)

-- "Printed lists": the matchers of a group in order
abbrev pub group_text : List PlainMatcher → Text
group_text g = joined_text (codes ", ") (map matcher_text g)

-- "Printed lists": the groups alone, if there are any; else the matchers in byte order of their texts
abbrev pub matchers_text : PlainMatchers → Text
matchers_text (plain_matchers plain []) = joined_text (codes ",") (sorted_texts (map matcher_text plain))
matchers_text (plain_matchers plain (g ∷ groups)) = joined_text (codes " or ") (map group_text (g ∷ groups))
