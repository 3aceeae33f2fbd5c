use Rattle.std.proofs.Common.{List, ap, map, ◌∙◌}
use Rattle.std.specs.Prelude.{◌≡◌, ◌≢◌, IfErr, IfOk, Some, Result, Ok, Err, zip}
use Rattle.serde_json.specs.View.{view}
use Rattle.serde_json.specs.declared.value.Value.{Value}
use Rattle.promql_text.specs.Texts.{Text}
use Rattle.promql_ast.proofs.nodes.ChangedLists.{on_ok}
use Rattle.promql_ast.specs.Tree.{Tree}
use Rattle.promql_ast.specs.View.{tree_of}
use Rattle.promql_json.specs.Json.{json}
use Rattle.promql_json.specs.JsonFaults.{json_fault}
use Rattle.promql_json.specs.declared.error.JsonError.{JsonError}
use Rattle.promql_json.specs.declared.error.JsonError.TheVariants.{Memory}
use Rattle.promql_span.specs.declared.span.Span.{Span}
use Rattle.promql_syntax.specs.ParseAnswers.{IsAnswerTo}
use Rattle.promql_places.specs.NodeParts.{parts_of}
use Rattle.promql_places.specs.NodePlaces.{AreOfNodes, place_of}
use Rattle.promql_places.specs.Passing.{lists_of}
use Rattle.promql_places.specs.PlacedForms.{IsPlacedForm, NodePlace}
use Rattle.promql_places.specs.PlacedFormSteps.{placed_value}
use Rattle.promql_places.specs.declared.parts.Part.{Part}
use Rattle.promql_places.proofs.PlacedFormSteps.{has_form, has_none}
use Rattle.promql_places.proofs.placed_form.placed_json.Goals as goal

has_no_form : {T : Type 0} (r : Result T JsonError) (t : Tree) → IfErr r (λ e. e ≢ Memory → json_fault t ≡ Some e) → IfErr r (λ e. e ≢ Memory → json t ≡ Err e)
has_no_form (Ok value) t faults = tt
has_no_form (Err e) t faults = λ other. has_none t e (faults other)

-- the form, by the places and the parts that were left
has_places : (r : Result Value JsonError) (s : Text) (t : Tree) (places : List Span) (lists : List (List Part)) (left : List NodePlace) → left ≡ zip places lists
    → (IsAnswerTo s (Ok t) → AreOfNodes (place_of s) s t places) → (IsAnswerTo s (Ok t) → AreOfNodes (parts_of s) s t lists)
    → IfOk r (λ v. view v ≡ placed_value t left) → IfOk r (λ v. IsAnswerTo s (Ok t) → IsPlacedForm s t (view v))
has_places (Ok v) s t places lists left same at have is = λ answer. (places, lists, at answer, have answer, is ∙ ap (placed_value t) same)
has_places (Err e) s t places lists left same at have is = tt

pub returns-clause-form : goal.returns-clause-form
returns-clause-form c =
    let p = c.in_ok-placing.placing in
    has_places c.node_value.result c.args.text.now (tree_of c.args.expr.now) p.places.items (lists_of p.parts.items) _
    (λ i. zip (c.as_slice.ensures.value i) (map (λ ps. ps.items) (c.as_slice-2.ensures.value i))) c.in_ok-placing.ensures.places c.in_ok-placing.ensures.parts
    c.node_value.ensures.ok

pub returns-clause-fits : goal.returns-clause-fits
returns-clause-fits c = on_ok c.node_value.result _ _ (has_form (tree_of c.args.expr.now)) c.node_value.ensures.fits

pub returns-clause-err : goal.returns-clause-err
returns-clause-err c = has_no_form c.node_value.result (tree_of c.args.expr.now) c.node_value.ensures.err
