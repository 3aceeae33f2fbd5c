use Rattle.std.proofs.Common.{arith, subst, ⊎_elim, sym, ◌∙◌}
use Rattle.std.proofs.lemmas.Bool.{cases_lt}
use Rattle.promql_grammar.specs.Symbols.{token_kind}
use Rattle.promql_grammar.specs.declared.token_kinds.TokenKind.TheVariants.{Other}
use Rattle.promql_span.specs.TokensBefore.{IsListed}
use Rattle.promql_span.proofs.GoingOn.{below_next, past_kinds}
use Rattle.promql_span.proofs.expected.kinds_after.Goals.{in-Other, in_default+in_ok-push_expected-in_default}
use Rattle.promql_span.proofs.expected.kinds_after.Goals as goal

pub loop-id-preserved : goal.loop-id-preserved
loop-id-preserved c =
    let now = c.loop-id.invariant in
    let id = c.loop-id.id in
    elim c.match-token_kind.branch [
      | in-Other w ↦
          let is_other = sym w.in-Other.is ∙ c.token_kind.ensures in
          rw w.kinds-is (record {
            other = now.other;
            kinds = λ front is. below_next (λ i. IsListed front c.loop-id.kinds.items (token_kind i)) id (now.kinds front is) (subst (IsListed front c.loop-id.kinds.items) is_other (now.other front is));
          })
      | in_default+in_ok-push_expected-in_default w ↦
          let pushed = w.in_ok-push_expected-in_default.ensures in
          let kinds = w.push_expected-in_default.new.kinds.items in
          rw w.kinds-is (record {
            other = λ front is goes. pushed.keeps Other (now.other front is goes);
            kinds = λ front is. below_next (λ i. IsListed front kinds (token_kind i)) id (λ i less goes. pushed.keeps (token_kind i) (now.kinds front is i less goes)) (subst (IsListed front kinds) c.token_kind.ensures (pushed.lists front is));
          })
    ]

pub returns : goal.returns
returns c = λ front is id. ⊎_elim
    (λ within. c.loop-id.invariant.kinds front is id (omega (arith, c.loop-id-test.false)))
    (λ past. subst (IsListed front c.loop-id.kinds.items) (sym (past_kinds id past)) (c.loop-id.invariant.other front is))
    (cases_lt id 86)
