use Rattle.std.proofs.Common.{refl}
use Rattle.promql_ast.proofs.layouts.Counted.{counted_text, some_weaker}
use Rattle.promql_ast.proofs.layout.display_len.displayed_len.Goals as goal

pub returns : goal.returns
returns g c = some_weaker (g.T.Display.output c.args.value.now) _ _ (λ t h. counted_text _ _ t refl h) c.in_ok-write.ensures.writes
