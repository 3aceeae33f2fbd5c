-- Worked lists of matchers (docs/reference/matchers.md, "Printed lists" and "Printed lists read back").
use Rattle.std.specs.Prelude.{◌≡◌, [], ℕ, List, ◌∷◌, ◌++◌, Ok, codes, map}
use Rattle.promql_text.specs.Texts.{Text}
use Rattle.promql_token.specs.Lexing.{pieces}
use Rattle.promql_token.specs.declared.ids.TheConstants.{T_COMMA, T_EQL, T_EQL_REGEX, T_IDENTIFIER, T_LOR, T_NEQ, T_NUMBER, T_STRING}
use Rattle.promql_token.specs.declared.state.Mode.TheVariants as mode
use Rattle.promql_label.specs.PlainMatchers.{equal, not_equal, matches, PlainMatcher, plain_matcher, PlainMatchers, plain_matchers, matchers_text}
use Rattle.promql_label.specs.ReadMatchers.{MeanGroups, printed_groups}

-- b="1" and `a b`="2"
abbrev pub two_plain : PlainMatchers
two_plain = plain_matchers (plain_matcher equal (codes "b") (codes "1") ∷ plain_matcher equal (codes "a b") (codes "2") ∷ []) []

-- b!="1", or c="2" and `a b`=~"3"
abbrev pub two_groups : PlainMatchers
two_groups =
    plain_matchers []
    ((plain_matcher not_equal (codes "b") (codes "1") ∷ [])
    ∷ (plain_matcher equal (codes "c") (codes "2") ∷ plain_matcher (matches (codes "^(?:3)$")) (codes "a b") (codes "3") ∷ [])
    ∷ [])

-- the tokens of the two groups
abbrev pub their_tokens : List (ℕ × Text)
their_tokens =
    (T_IDENTIFIER, codes "b") ∷ (T_NEQ, codes "!=") ∷ (T_STRING, codes "\"1\"") ∷ (T_LOR, codes "or")
    ∷ (T_IDENTIFIER, codes "c") ∷ (T_EQL, codes "=") ∷ (T_STRING, codes "\"2\"") ∷ (T_COMMA, codes ",")
    ∷ (T_STRING, codes "\"a b\"") ∷ (T_EQL_REGEX, codes "=~") ∷ (T_STRING, codes "\"3\"") ∷ []

abbrev pub MeanNothing : List (ℕ × Text) → Type 0
MeanNothing ts = (gs : List (List PlainMatcher)) → ¬ MeanGroups ts gs

pub record WorkedLists : Type 0 where
  pub none : matchers_text (plain_matchers [] []) ≡ codes ""
  pub plain : matchers_text two_plain ≡ codes "\"a b\"=\"2\",b=\"1\""
  pub groups : matchers_text two_groups ≡ codes "b!=\"1\" or c=\"2\", \"a b\"=~\"3\""
  pub bare : matchers_text (plain_matchers [] ([] ∷ [] ∷ [])) ≡ codes " or "
  pub groups_tokens :
      (depth : ℕ) (r : Text) → pieces (record { depth = depth; mode = mode.Braces }) (matchers_text two_groups ++ r)
      ≡ map (λ t. Ok t) their_tokens ++ pieces (record { depth = depth; mode = mode.Braces }) r
  pub groups_read : MeanGroups their_tokens (printed_groups two_groups)
  pub bare_read : MeanGroups ((T_LOR, codes "or") ∷ []) ([] ∷ [] ∷ [])
  pub no_name : MeanNothing ((T_NUMBER, codes "1") ∷ (T_EQL, codes "=") ∷ (T_STRING, codes "\"1\"") ∷ [])
  pub no_value : MeanNothing ((T_IDENTIFIER, codes "b") ∷ (T_EQL, codes "=") ∷ [])
  pub no_string : MeanNothing ((T_IDENTIFIER, codes "b") ∷ (T_EQL, codes "=") ∷ (T_NUMBER, codes "\"1\"") ∷ [])
  pub only_comma : MeanNothing ((T_COMMA, codes ",") ∷ [])
