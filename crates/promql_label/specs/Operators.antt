-- The operators that token ids are for: docs/reference/matchers.md, "Operators of tokens".
use Rattle.std.specs.Prelude.{◌≡◌, ℕ, Bool, ◌||◌, [], ◌∷◌}
use Rattle.promql_token.specs.declared.ids.TheConstants.{T_EQL, T_NEQ, T_EQL_REGEX, T_NEQ_REGEX}
use Rattle.promql_token.specs.Ids.{is_one_of}
use Rattle.promql_label.specs.Answers.{Allows, built}
use Rattle.promql_label.specs.PlainMatchers.{Operator, equal, not_equal, matches, matches_not, PlainMatcher, plain_matcher}
use Rattle.promql_text.specs.Texts.{Text}

-- the ids that compare by a pattern, and those that compare with a text, or so
abbrev pub is_pattern_id : ℕ → Bool
is_pattern_id = is_one_of (T_EQL_REGEX ∷ T_NEQ_REGEX ∷ [])

abbrev pub is_operator_id : ℕ → Bool
is_operator_id id = is_one_of (T_EQL ∷ T_NEQ ∷ []) id || is_pattern_id id

-- the operator is the id's, and a pattern in it is one that is allowed for the value
abbrev pub OperatorOf : ℕ → Text → Operator → Type 0
OperatorOf id value equal = id ≡ T_EQL
OperatorOf id value not_equal = id ≡ T_NEQ
OperatorOf id value (matches w) = (id ≡ T_EQL_REGEX) × Allows value (built w)
OperatorOf id value (matches_not w) = (id ≡ T_NEQ_REGEX) × Allows value (built w)

-- a matcher of an id, a name and a value
abbrev pub IsMatcherOf : ℕ → Text → Text → PlainMatcher → Type 0
IsMatcherOf id name value (plain_matcher op n v) = OperatorOf id value op × (n ≡ name) × (v ≡ value)
