use Rattle.std.proofs.Common.{◌+◌, ◌≤◌, IfSome, false, length, subst, sym}
use Rattle.promql_span.proofs.EscapeSteps.{found_within}
use Rattle.promql_span.proofs.byte_escapes.escape_between.Goals as goal

pub returns-in_default-clause-within : goal.returns-in_default-clause-within
returns-in_default-clause-within c =
    subst (λ o. IfSome o (λ start. start + 4 ≤ c.args.at + length c.args.quoted.now)) (sym c.first_escape.ensures) (found_within false c.args.at c.args.quoted.now)
