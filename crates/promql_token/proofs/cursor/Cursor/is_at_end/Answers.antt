use Rattle.std.proofs.Common.{◌∙◌, sym}
use Rattle.std.proofs.lemmas.Bool.{eqb-true}
use Rattle.promql_token.proofs.cursors.CursorTokens.{at_text_end}
use Rattle.promql_token.proofs.cursor.Cursor.is_at_end.Goals as goal

pub returns-in-Outside-clause-tokens : goal.returns-in-Outside-clause-tokens
returns-in-Outside-clause-tokens c _ =
    let none = eqb-true _ _ (sym c.is_empty.ensures ∙ c.if-not-is_empty.false) in
    (at_text_end c.as_bytes.result.now c.args.self.now c.as_bytes.ensures.value none c.if-self-eq0.true c.in-Outside.is).0

pub returns-in-Outside-clause-fault : goal.returns-in-Outside-clause-fault
returns-in-Outside-clause-fault c _ =
    let none = eqb-true _ _ (sym c.is_empty.ensures ∙ c.if-not-is_empty.false) in
    (at_text_end c.as_bytes.result.now c.args.self.now c.as_bytes.ensures.value none c.if-self-eq0.true c.in-Outside.is).1
