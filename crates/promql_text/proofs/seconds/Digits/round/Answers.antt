use Rattle.std.proofs.Common.{◌∙◌}
use Rattle.promql_text.proofs.numerals.DigitsRead.{finish_none, finish_below, finish_half, finish_above}
use Rattle.promql_text.proofs.seconds.Digits.round.Goals as goal

pub returns-in-Empty : goal.returns-in-Empty
returns-in-Empty c = λ n ds digits read. c.with_zeros.ensures ∙ finish_none n ds c.args.self c.in-Empty.is read

pub returns-in-Below : goal.returns-in-Below
returns-in-Below c = λ n ds digits read. finish_below n ds c.args.self c.in-Below.is digits read

pub returns-in-Half : goal.returns-in-Half
returns-in-Half c = λ n ds digits read. c.saturating_add.ensures ∙ finish_half n ds c.args.self c.in-Half.is digits read

pub returns-in-Above : goal.returns-in-Above
returns-in-Above c = λ n ds digits read. c.saturating_add-in-Above.ensures ∙ finish_above n ds c.args.self c.in-Above.is digits read
