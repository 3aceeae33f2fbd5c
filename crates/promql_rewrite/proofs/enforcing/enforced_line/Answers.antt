use Rattle.std.proofs.Common.{◌∙◌, ap}
use Rattle.std.specs.Prelude.{Err}
use Rattle.promql_rewrite.proofs.rules_broken.Rejections.{of_enforced}
use Rattle.promql_rewrite.proofs.enforcing.enforced_line.Goals as goal

pub returns-in-Err-faithful_line-clause-errors : goal.returns-in-Err-faithful_line-clause-errors
returns-in-Err-faithful_line-clause-errors c =
    of_enforced c.in-Err-faithful_line.error c.from-in-Err-faithful_line.result c.from-in-Err-faithful_line.ensures
    (λ flat. c.faithful_line.ensures.no_indent (c.in-Err-faithful_line.is ∙ ap Err flat))
    (λ e is. (c.faithful_line.ensures.rejected e (c.in-Err-faithful_line.is ∙ ap Err is)).1)
