use Rattle.std.proofs.Common.{string_bytes, subst}
use Rattle.promql_grammar.specs.Results.{on_result}
use Rattle.promql_c.specs.Calls.{IsFormattedOf}
use Rattle.promql_c.proofs.calls.format.Goals as goal

pub returns : goal.returns
returns c =
    let made = on_result (λ s. string_bytes s) c.format_bytes-made.result in (
      made,
      subst (λ options. IsFormattedOf c.args.limits.now options c.args.query.now made) c.format_options-options.ensures c.format_bytes-made.ensures,
      c.show.ensures,
    )
