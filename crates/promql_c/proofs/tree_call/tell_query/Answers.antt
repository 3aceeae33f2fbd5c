use Rattle.std.proofs.Common.{inl, string_bytes, subst}
use Rattle.promql_grammar.specs.Results.{on_result}
use Rattle.promql_query.specs.QueryErrors.{OfTree}
use Rattle.promql_c.proofs.tree_call.tell_query.Goals as goal

pub returns : goal.returns
returns g c =
    let limits = c.args.limits.now in
    inl (
      c.in-Ok.ensures.cases.1,
      subst (λ query. OfTree limits query (g.C.TreeCall.tells c.args.call.now limits query) (on_result (λ s. string_bytes s) c.tell_text.result))
          c.in-Ok.ensures.cases.0 c.tell_text.ensures,
    )
