use Rattle.std.proofs.Common.{◌≡◌, string_bytes}
use Rattle.serde_json.specs.Data.{Data}
use Rattle.serde_json.specs.Written.{compact_text}
use Rattle.promql_ast.specs.View.{tree_of}
use Rattle.promql_places.specs.PlacedForms.{IsPlacedForm}
use Rattle.promql_run.specs.declared.format.Format.TheVariants.{Json}
use Rattle.promql_query.specs.QueryErrors.{Gives, HasNoText, IsOutput}
use Rattle.promql_query.proofs.Steps.{then_made}
use Rattle.promql_query.proofs.placed_text.placed_text.Goals as goal

pub returns-in-Ok : goal.returns-in-Ok
returns-in-Ok c = λ answer.
    let t = tree_of c.args.expr.now in
    then_made
    (Gives (λ text. (d : Data) × IsPlacedForm c.args.query.now t d × (text ≡ compact_text d)) (HasNoText Json t))
    (IsOutput c.args.limits.now)
    (string_bytes c.in-Ok.text)
    _
    (c.in-Ok.ensures.form answer)
    c.output_within.ensures
