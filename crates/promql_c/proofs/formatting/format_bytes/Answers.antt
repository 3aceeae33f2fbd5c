use Rattle.std.proofs.Common.{inl, string_bytes, subst}
use Rattle.promql_grammar.specs.Results.{on_result}
use Rattle.promql_query.specs.FormattedQueries.{IsFormattedQuery}
use Rattle.promql_c.proofs.MadeTexts.{made}
use Rattle.promql_c.proofs.formatting.format_bytes.Goals as goal

pub returns : goal.returns
returns c =
    let limits = c.args.limits.now in let options = c.args.options.now in
    inl (
      c.in-Ok.ensures.cases.1,
      subst (λ query. IsFormattedQuery limits options query (on_result (λ s. string_bytes s) c.formatted_query.result)) c.in-Ok.ensures.cases.0
          (made (IsFormattedQuery limits options c.in-Ok.text.now) c.formatted_query.result c.formatted_query.ensures.ok c.formatted_query.ensures.err),
    )
