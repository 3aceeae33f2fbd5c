use Rattle.std.proofs.Common.{ap, ◌∙◌}
use Rattle.std.proofs.lemmas.Result.{IfOk-weaker}
use Rattle.serde_json.specs.Written.{compact_text, has_float}
use Rattle.promql_ast.specs.View.{tree_of}
use Rattle.promql_when.specs.Found.{found_of}
use Rattle.promql_query.specs.TimesText.{times_value}
use Rattle.promql_query.proofs.FiniteWindows.{times_no_float}
use Rattle.promql_query.proofs.times_text.told_text.Goals as goal

pub value_text-requires : goal.value_text-requires
value_text-requires c =
    ap has_float c.in_ok-value.ensures ∙ times_no_float c.args.times.now (tree_of c.args.expr.now) (found_of c.args.found.now) c.as_slice.result.now

pub returns : goal.returns
returns c = λ of_tree.
    let ts = c.args.times.now in let t = tree_of c.args.expr.now in
    IfOk-weaker c.value_text.result _ _
    (λ s is. (
      c.in_ok-places.places.items,
      c.in_ok-places.ensures of_tree,
      is ∙ ap compact_text (c.in_ok-value.ensures ∙ ap (times_value ts t (found_of c.args.found.now)) c.as_slice.ensures.value
          ∙ ap (λ ws. times_value ts t ws c.in_ok-places.places.items) c.requires),
    ))
    c.value_text.ensures
