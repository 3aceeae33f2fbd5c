-- The tokens of printed lists of matchers.
use Rattle.std.specs.Prelude.{◌≡◌, ℕ, if◌then◌else◌, List, [], ◌∷◌, codes}
use Rattle.std.specs.List.{join_by}
use Rattle.std.proofs.Common.{refl}
use Rattle.promql_text.specs.Quoting.{quoted_text}
use Rattle.promql_text.specs.Texts.{Text}
use Rattle.promql_token.specs.Classes.{is_label}
use Rattle.promql_token.specs.Ids.{text_of}
use Rattle.promql_token.specs.declared.ids.TheConstants.{T_COMMA, T_IDENTIFIER, T_LOR, T_STRING}
use Rattle.promql_token.specs.declared.state.Mode.TheVariants as mode
use Rattle.promql_token.specs.declared.state.State.{State}
use Rattle.promql_label.specs.PlainMatchers.{Operator, equal, not_equal, matches, matches_not, PlainMatcher, plain_matcher, PlainMatchers, name_of, name_text, operator_text, value_of}
use Rattle.promql_label.specs.ReadMatchers.{operator_id, parts_of, printed_groups}

-- a token's id and its text
abbrev pub Token : Type 0
Token = ℕ × Text

-- in braces, with so many parentheses open
abbrev pub inside : ℕ → State
inside depth = record { depth = depth; mode = mode.Braces }

-- a name, an operator and a value
abbrev pub name_token : Text → Token
name_token name = (if is_label name then T_IDENTIFIER else T_STRING, name_text name)

abbrev pub matcher_tokens : PlainMatcher → List Token
matcher_tokens (plain_matcher op name value) =
    name_token name ∷ (operator_id op, operator_text op) ∷ (T_STRING, quoted_text value) ∷ []

-- a comma between each two matchers
abbrev pub group_tokens : List PlainMatcher → List Token
group_tokens = join_by matcher_tokens ((T_COMMA, codes ",") ∷ [])

-- `or` between each two groups
abbrev pub matchers_tokens : PlainMatchers → List Token
matchers_tokens cs = join_by group_tokens ((T_LOR, codes "or") ∷ []) (printed_groups cs)

-- ---- the same by the parts of a matcher

printed_operator : (op : Operator) → operator_text op ≡ text_of (operator_id op)
printed_operator equal = refl
printed_operator not_equal = refl
printed_operator (matches w) = refl
printed_operator (matches_not w) = refl

abbrev pub tokens_by_parts : PlainMatcher → List Token
tokens_by_parts c =
    name_token (name_of c) ∷ ((parts_of c).0, text_of (parts_of c).0) ∷ (T_STRING, quoted_text (value_of c)) ∷ []

same_tokens : (c : PlainMatcher) → matcher_tokens c ≡ tokens_by_parts c
same_tokens (plain_matcher op name value) = λ i. name_token name ∷ (operator_id op, printed_operator op i) ∷ (T_STRING, quoted_text value) ∷ []

pub by_parts : (cs : PlainMatchers) → matchers_tokens cs ≡ join_by (join_by tokens_by_parts ((T_COMMA, codes ",") ∷ [])) ((T_LOR, codes "or") ∷ []) (printed_groups cs)
by_parts cs = λ i. join_by (join_by (λ c. same_tokens c i) ((T_COMMA, codes ",") ∷ [])) ((T_LOR, codes "or") ∷ []) (printed_groups cs)
