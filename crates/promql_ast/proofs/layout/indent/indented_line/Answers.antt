use Rattle.std.proofs.Common.{◌∙◌, ◌++◌, Ok, ap}
use Rattle.promql_ast.specs.Lines.{indent}
use Rattle.promql_ast.specs.declared.layout.prettier.PrettyError.{PrettyError}
use Rattle.promql_ast.proofs.layouts.Counted.{some_weaker}
use Rattle.promql_ast.proofs.layouts.Indents.{keeps_indented}
use Rattle.promql_ast.proofs.layout.indent.indented_line.Goals as goal

pub returns-clause-keeps : goal.returns-clause-keeps
returns-clause-keeps g c =
    keeps_indented {E = PrettyError} c.args.level (g.T.Display.output c.args.value.now) (Ok c.write.new.self)
    (some_weaker (g.T.Display.output c.args.value.now) _ _ (λ t h. h ∙ ap (λ s. s ++ t) (c.in_ok-push_indent.ensures.ok ∙ ap (λ s. s ++ indent c.args.level) c.new-out.ensures.bytes)) c.in_ok-write.ensures.bytes)
