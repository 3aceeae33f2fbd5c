use Rattle.std.proofs.Common.{arith, ap, ◌∙◌, ◌*◌, ◌+◌, ◌^◌, ◌≡◌, refl}
use Rattle.promql_text.proofs.numbers.Tens.{times_ten, push_long, push_value, push_short, IsPushed, zero_stays}
use Rattle.promql_text.proofs.significand.Significand.push.Goals as goal
use Rattle.promql_text.proofs.significand.Significand.push.Goals.{then-self-eq0, else-self-eq0}

pub returns-in_err-front-clause-value : goal.returns-in_err-front-clause-value
returns-in_err-front-clause-value c =
    rw c.from_residual.ensures (push_long c.args.self.digits c.args.self.zeros c.args.digit c.requires.below_ten c.if-digit-ne0.true c.in_err-front.ensures)

pub invariant_of-result : goal.invariant_of-result
invariant_of-result c =
    let is : c.in_ok-front.front ≡ c.args.self.digits * 10 ^ (c.args.self.zeros + 1) = c.in_ok-front.ensures.1 in
    let p : IsPushed (c.in_ok-front.front + c.args.digit) = push_short c.args.self.digits c.args.self.zeros c.args.digit c.in_ok-front.front c.requires.below_ten c.if-digit-ne0.true is (omega arith) in
    record { short = p.short; ends = p.ends; none = λ _. refl }

pub returns-then-digit-ne0-clause-value : goal.returns-then-digit-ne0-clause-value
returns-then-digit-ne0-clause-value c = push_value c.args.self.digits c.args.self.zeros c.args.digit c.in_ok-front.front c.in_ok-front.ensures.1

pub returns-clause-value : goal.returns-clause-value
returns-clause-value c =
    elim c.if-self-eq0.branch [
      | then-self-eq0 w ↦ (let n : c.args.self.digits ≡ 0 = omega (arith, w.if-self-eq0.true) in let d : c.args.digit ≡ 0 = omega (arith, c.if-digit-ne0.false) in zero_stays c.args.self.digits c.args.self.zeros c.if-self-eq0.zeros c.args.digit n d)
      | else-self-eq0 w ↦ ap (λ z. c.args.self.digits * 10 ^ z) w.zeros-is ∙ times_ten c.args.self.digits c.args.self.zeros ∙ omega arith
    ]
