use Rattle.std.specs.Prelude.{IfSome}
use Rattle.std.proofs.Common.{subst, sym}
use Rattle.promql_span.specs.ExpectedTokens.{symbols_before}
use Rattle.promql_span.specs.TokensBefore.{AreAlike, symbols_of_text}
use Rattle.promql_span.proofs.GoingOn.{not_false, then_has}
use Rattle.promql_span.proofs.expected.expected_tokens.Goals as goal

pub returns : goal.returns
returns c =
    let front = symbols_before c.args.text.now c.args.at in
    let alike = subst (λ o. IfSome o (λ b. AreAlike front (symbols_of_text b.now))) (sym c.then_some-before.ensures) (then_has (λ b. AreAlike front (symbols_of_text b.now)) _ _ c.has_same_kinds.ensures) in
    record {
      tokens = λ id d text others formed is. c.in_ok-kinds.ensures front alike id (d, text, others, formed, is);
      end = λ d formed is. not_false c.in_ok-ends.ends (λ no. c.in_ok-ends.ensures no front alike (d, formed, is));
    }
