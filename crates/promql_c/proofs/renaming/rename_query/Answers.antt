use Rattle.std.proofs.Common.{Some, string_bytes, subst, sym}
use Rattle.promql_grammar.specs.Results.{on_result}
use Rattle.promql_c.specs.Calls.{IsRenameOf}
use Rattle.promql_c.proofs.renaming.rename_query.Goals as goal

pub returns : goal.returns
returns c =
    let limits = c.args.limits.now in let named = c.in-Some.named in let texts = c.in-Ok-Ok-Ok in
    let made = on_result (λ s. string_bytes s) c.rename_text.result in
    subst (λ asked. IsRenameOf limits c.args.query.now c.args.from.now c.args.to.now asked made) (sym c.in-Some.is)
    (subst (λ to. IsRenameOf limits c.args.query.now c.args.from.now to (Some named) made) texts.ensures''.cases.0
    (subst (λ from. IsRenameOf limits c.args.query.now from texts.to.now (Some named) made) texts.ensures'.cases.0
    (subst (λ query. IsRenameOf limits query texts.from.now texts.to.now (Some named) made) texts.ensures.cases.0 c.rename_text.ensures)))
