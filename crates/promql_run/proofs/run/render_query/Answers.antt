use Rattle.std.proofs.Common.{◌≡◌, subst}
use Rattle.std.specs.Prelude.{◌++◌, ◌∷◌, [], Result, Ok, Err, IfErr, IfOk, String, string_bytes}
use Rattle.std.specs.declared.alloc.Global.{Global}
use Rattle.promql_text.specs.Texts.{Text}
use Rattle.promql_ast.specs.Tree.{Tree}
use Rattle.promql_run.specs.Running.{IsPrinted, format_text}
use Rattle.promql_run.specs.declared.format.Format.{Format}
use Rattle.promql_run.specs.declared.run.RunError.{RunError}
use Rattle.promql_syntax.specs.ParseAnswers.{IsAnswerTo}
use Rattle.promql_ast.specs.View.{tree_of}
use Rattle.promql_run.specs.StepErrors.{IsShowError}
use Rattle.promql_run.proofs.NoExtensions.{answers_are_plain}
use Rattle.promql_run.proofs.run.render_query.Goals as goal

pub render_line-line-requires-clause-plain : goal.render_line-line-requires-clause-plain
render_line-line-requires-clause-plain c = answers_are_plain c.args.text.now (tree_of c.in-Ok.expr) c.in-Ok.ensures

pub returns-clause-json : goal.returns-clause-json
returns-clause-json c = λ is. (tree_of c.in-Ok.expr, c.in-Ok.ensures, c.render_line-line.ensures.json is)

pub returns-clause-parse : goal.returns-clause-parse
returns-clause-parse c = λ e is. absurd (subst (λ r. IfErr r IsShowError) is c.render_line-line.ensures.errors)

line_printed : (r : Result (String Global) RunError) (format : Format) (text : Text) (t : Tree) → IsAnswerTo text (Ok t) → IfOk r (λ s. (body : Text) × (format_text format t ≡ Ok body) × (string_bytes s ≡ body ++ 10 ∷ [])) → IfOk r (λ s. IsPrinted format text (string_bytes s))
line_printed (Ok s) format text t parsed line = (line.0, (t, parsed, line.1), line.2)
line_printed (Err e) format text t parsed line = tt

pub returns-clause-ok : goal.returns-clause-ok
returns-clause-ok c = line_printed c.render_line-line.result c.args.format c.args.text.now (tree_of c.in-Ok.expr) c.in-Ok.ensures c.render_line-line.ensures.ok
