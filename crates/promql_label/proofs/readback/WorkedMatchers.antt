-- Worked lists of matchers.
use Rattle.std.proofs.Common.{inl, inr, refl, ap, [], ◌∷◌, arith}
use Rattle.promql_text.specs.Quoting.{unquoted_text}
use Rattle.promql_token.specs.declared.ids.TheConstants.{T_COMMA, T_EQL, T_IDENTIFIER, T_NUMBER, T_STRING}
use Rattle.std.specs.Prelude.{codes}
use Rattle.promql_label.specs.MatcherRows.{MeanNothing, WorkedLists, two_groups}
use Rattle.promql_label.specs.PlainMatchers.{plain_matcher}
use Rattle.promql_label.proofs.readback.MatchersReadBack.{tokens_mean}
use Rattle.promql_label.proofs.readback.PrintedTokens.{matchers_read}

no_name : MeanNothing ((T_NUMBER, codes "1") ∷ (T_EQL, codes "=") ∷ (T_STRING, codes "\"1\"") ∷ [])
no_name [] h = h
no_name (g ∷ gs) (inl p, more) = cc
no_name ([] ∷ gs) (inr p, more) = p
no_name ((plain_matcher op name value ∷ cs) ∷ gs) (inr ((inl n, o, v), rest), more) = omega (arith, ap (λ t. t.0) n)
no_name ((plain_matcher op name value ∷ cs) ∷ gs) (inr ((inr n, o, v), rest), more) = omega (arith, n.0)

no_value : MeanNothing ((T_IDENTIFIER, codes "b") ∷ (T_EQL, codes "=") ∷ [])
no_value [] h = h
no_value (g ∷ gs) (inl p, more) = cc
no_value ([] ∷ gs) (inr p, more) = p
no_value ((c ∷ cs) ∷ gs) (inr p, more) = p.0

no_string : MeanNothing ((T_IDENTIFIER, codes "b") ∷ (T_EQL, codes "=") ∷ (T_NUMBER, codes "\"1\"") ∷ [])
no_string [] h = h
no_string (g ∷ gs) (inl p, more) = cc
no_string ([] ∷ gs) (inr p, more) = p
no_string ((plain_matcher op name value ∷ cs) ∷ gs) (inr p, more) = omega (arith, p.0.2.0)

only_comma : MeanNothing ((T_COMMA, codes ",") ∷ [])
only_comma [] h = h
only_comma (g ∷ gs) (inl p, more) = cc
only_comma ([] ∷ gs) (inr p, more) = p
only_comma ((c ∷ cs) ∷ gs) (inr p, more) = p.0

pub worked_lists : WorkedLists
unfolding unquoted_text
worked_lists = record {
  none = refl;
  plain = refl;
  groups = refl;
  bare = refl;
  groups_tokens = λ depth. matchers_read depth two_groups;
  groups_read = tokens_mean two_groups;
  bare_read = (inl (refl, refl), (inl (refl, refl), tt));
  no_name = no_name;
  no_value = no_value;
  no_string = no_string;
  only_comma = only_comma;
}
