use Rattle.std.proofs.Common.{string_bytes}
use Rattle.promql_from_json.specs.FormMisfits.{inside}
use Rattle.promql_from_json.proofs.from_error.ReadError.inside.Goals as goal

pub returns-in-Ok-clause-place : goal.returns-in-Ok-clause-place
returns-in-Ok-clause-place c = λ f g d v asks has placed.
    let below = rw c.in-Misfit.is at placed in
    rw c.in-Ok.ensures.ok (inside f g d v c.args.name.now (string_bytes c.in-Misfit.misfit.path) c.in-Misfit.misfit.expected asks has below)
