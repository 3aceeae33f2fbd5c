use Rattle.std.proofs.Common.{inl, string_bytes, subst, sym}
use Rattle.promql_grammar.specs.Results.{on_result}
use Rattle.promql_query.specs.QueryErrors.{IsOutput, Then}
use Rattle.promql_query.specs.TreeTexts.{PrintsForm}
use Rattle.promql_c.specs.Calls.{IsTreePrintOf}
use Rattle.promql_c.proofs.tree_printing.print_form.Goals as goal

pub returns : goal.returns
returns c =
    let limits = c.args.limits.now in let max_tree = c.args.max_tree in let parens = c.args.parens in let made = on_result (λ s. string_bytes s) c.print_text.result in
    subst (λ asked. IsTreePrintOf limits max_tree c.args.form.now parens asked made) (sym c.in-Some.is)
    (inl (c.in-Ok.ensures.cases.1, subst (λ form. Then (PrintsForm limits max_tree c.in-Some.format parens form) (IsOutput limits) made) c.in-Ok.ensures.cases.0 c.print_text.ensures))
