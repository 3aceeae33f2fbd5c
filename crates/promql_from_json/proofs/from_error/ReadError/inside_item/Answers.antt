use Rattle.std.proofs.Common.{string_bytes}
use Rattle.promql_from_json.specs.FormMisfits.{inside_exact, inside_item}
use Rattle.promql_from_json.proofs.from_error.ReadError.inside_item.Goals as goal

pub returns-in-Ok-clause-place : goal.returns-in-Ok-clause-place
returns-in-Ok-clause-place c = λ x f d v has placed.
    let below = rw c.in-Misfit.is at placed in
    rw c.in-Ok.ensures.ok (inside_item x f d v c.args.index (string_bytes c.in-Misfit.misfit.path) c.in-Misfit.misfit.expected has below)

pub returns-in-Ok-clause-exact : goal.returns-in-Ok-clause-exact
returns-in-Ok-clause-exact c = λ d v w x wanted has placed.
    let below = rw c.in-Misfit.is at placed in
    rw c.in-Ok.ensures.ok (inside_exact d v w x c.args.index (string_bytes c.in-Misfit.misfit.path) c.in-Misfit.misfit.expected wanted has below)
