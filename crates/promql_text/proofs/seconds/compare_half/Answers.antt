use Rattle.std.proofs.Common.{◌<◌, subst, arith}
use Rattle.promql_text.specs.Rounding.{ComparesHalf}
use Rattle.promql_text.proofs.numerals.DigitsRead.{below_more, half_still, half_passed, above_more}
use Rattle.promql_text.proofs.seconds.compare_half.Goals as goal

pub returns-in-Below : goal.returns-in-Below
returns-in-Below c = λ ds code is tail. below_more ds code c.args.digit is c.requires (subst (λ t. ComparesHalf t ds) c.in-Below.is tail)

pub returns-then-digit-eq0 : goal.returns-then-digit-eq0
returns-then-digit-eq0 c = λ ds code is tail. half_still ds code c.args.digit is c.if-digit-eq0.true (subst (λ t. ComparesHalf t ds) c.in-Half.is tail)

pub returns-else-digit-eq0 : goal.returns-else-digit-eq0
returns-else-digit-eq0 c = λ ds code is tail.
    let some : 0 < c.args.digit = omega arith in
    half_passed ds code c.args.digit is some (subst (λ t. ComparesHalf t ds) c.in-Half.is tail)

pub returns-in-Above : goal.returns-in-Above
returns-in-Above c = λ ds code is tail. above_more ds code c.args.digit is (subst (λ t. ComparesHalf t ds) c.in-Above.is tail)
