use Rattle.std.proofs.Common.{ap, ◌∙◌}
use Rattle.std.proofs.lemmas.Result.{IfOk-weaker}
use Rattle.promql_ast.specs.View.{tree_of}
use Rattle.promql_query.specs.SelectorPlaces.{selector_places, steps}
use Rattle.promql_query.proofs.windows_text.query_places.Goals as goal

pub returns : goal.returns
returns c = λ answer.
    IfOk-weaker c.selector_places.result _ _
    (λ places is. (
      c.in_ok-nodes.nodes.items,
      c.in_ok-nodes.ensures answer,
      is ∙ ap (selector_places (steps (tree_of c.args.expr.now))) c.as_slice.ensures.value,
    ))
    c.selector_places.ensures
