use Rattle.std.proofs.Common.{ap, ◌∙◌}
use Rattle.std.specs.Prelude.{zip}
use Rattle.serde_json.specs.View.{view}
use Rattle.serde_json.specs.Written.{has_float}
use Rattle.promql_ast.specs.View.{tree_of}
use Rattle.promql_places.proofs.PlacedFloats.{no_float_placed}
use Rattle.promql_places.proofs.placed_form.placed_json_text.Goals as goal

pub returns-clause-form : goal.returns-clause-form
returns-clause-form c = λ answer.
    let form = c.in_ok-value.ensures.form answer in
    let finite = ap has_float form.4 ∙ no_float_placed (tree_of c.args.expr.now) (zip form.0 form.1) c.in_ok-value.ensures.fits in
    (view c.in_ok-value.value, form, c.in_ok-text.ensures.text finite)
