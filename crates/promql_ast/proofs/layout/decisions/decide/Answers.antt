use Rattle.std.proofs.Common.{◌++◌, true, false, slice_set, ap, sym, ◌∙◌}
use Rattle.std.proofs.Math.Seq.{set-append_seam}
use Rattle.promql_ast.specs.Decisions.{node_decisions}
use Rattle.promql_ast.proofs.layout.decisions.decide.Goals as goal

pub returns-then-index-len : goal.returns-then-index-len
returns-then-index-len c = λ front parts p e.
    (λ i. slice_set (e i) (p i) true) ∙ set-append_seam front false parts true ∙ ap (λ b. front ++ node_decisions b parts) (sym c.if-longer.true)
