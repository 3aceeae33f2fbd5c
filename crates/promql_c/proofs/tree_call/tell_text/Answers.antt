use Rattle.std.proofs.Common.{◌≡◌, None, string_bytes}
use Rattle.promql_grammar.specs.Results.{on_result}
use Rattle.promql_ast.specs.View.{tree_of}
use Rattle.promql_query.proofs.Steps.{then_made}
use Rattle.promql_query.specs.QueryErrors.{ReadsQuery}
use Rattle.promql_c.proofs.tree_call.tell_text.Goals as goal

pub returns : goal.returns
returns g c =
    let limits = c.args.limits.now in let query = c.args.query.now in
    then_made (ReadsQuery (λ r. r.expectation ≡ None) limits query) (g.C.TreeCall.tells c.args.call.now limits query) (tree_of c.in-Ok.expr)
    (on_result (λ s. string_bytes s) c.tell-told.result) c.in-Ok.ensures.ok c.tell-told.ensures
