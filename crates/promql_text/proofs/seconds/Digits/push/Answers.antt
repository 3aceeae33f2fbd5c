use Rattle.std.proofs.Common.{◌≡◌, ◌+◌, ◌-◌, ◌*◌, refl, arith}
use Rattle.promql_text.specs.DurationReaders.{cap_u128}
use Rattle.promql_text.proofs.numerals.DigitsRead.{push_before}
use Rattle.promql_text.proofs.seconds.Digits.push.Goals as goal

pub returns-then-self-gt0 : goal.returns-then-self-gt0
returns-then-self-gt0 c = λ n ds code is read.
    let whole : c.saturating_add-self.result ≡ cap_u128 (cap_u128 (c.args.self.now.whole * 10) + c.args.digit) = omega arith in
    push_before n ds code c.args.digit c.args.self.now (record { to_point = c.args.self.now.to_point - 1; whole = c.saturating_add-self.result; tail = c.args.self.now.tail }) is c.if-self-gt0.true refl whole refl read
