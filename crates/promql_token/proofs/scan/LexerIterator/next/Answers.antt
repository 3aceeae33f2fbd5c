use Rattle.std.proofs.Common.{◌∙◌, length, drop, ap, refl, rules}
use Rattle.promql_token.specs.Lexing.{fault_char}
use Rattle.promql_token.specs.declared.cursor.Cursor.{Cursor}
use Rattle.promql_token.proofs.cursors.CursorTokens.{left_past}
use Rattle.promql_token.proofs.one_reading.Items.{left_fault}
use Rattle.promql_token.proofs.scan.LexerIterator.next.Goals as goal

pub returns-in-Ok-clause-steps : goal.returns-in-Ok-clause-steps
returns-in-Ok-clause-steps c =
    let e = c.in-Ok.ensures in
    rw c.if-self.false (left_past c.in-Ok.token c.args.self.now.cursor c.advance.new.self e.value e.token)

pub returns-in-Ok-clause-goes : goal.returns-in-Ok-clause-goes
returns-in-Ok-clause-goes c = let e = ap length (returns-in-Ok-clause-steps c) in search (rules, e)

pub returns-in-Err-clause-steps : goal.returns-in-Err-clause-steps
returns-in-Err-clause-steps c =
    let s = c.args.self.now.cursor in
    let e = c.in-Err.ensures in
    let ch = c.fault_char-ch.ensures ∙ ap (λ (k : Cursor). fault_char c.in-Err.kind (drop c.in-Err.at k.text.now)) e.fault in
    rw ch (rw c.if-self.false (left_fault _ s.at s.state _ _ e.value refl))

pub returns-in-Err-clause-goes : goal.returns-in-Err-clause-goes
returns-in-Err-clause-goes c = let e = ap length (returns-in-Err-clause-steps c) in search (rules, e)
