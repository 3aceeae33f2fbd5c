use Rattle.std.proofs.Common.{◌≡◌, ◌≢◌, ◌∙◌, Ok, Err, ap, sym, rules}
use Rattle.serde_json.proofs.Views.{view-Object}
use Rattle.promql_ast.specs.View.{call_tree}
use Rattle.promql_json.specs.declared.error.JsonError.TheVariants.{Memory}
use Rattle.promql_json.specs.Json.{node_json}
use Rattle.promql_json.proofs.FaultOrder.{node_ok, node_err}
use Rattle.promql_walk.proofs.to_json.CallToJson.to_json.Goals as goal

pub returns-in_err-call_members-clause-err : goal.returns-in_err-call_members-clause-err
returns-in_err-call_members-clause-err c =
    let fault : c.in_err-call_members.field-0.0 ≢ Memory → node_json (call_tree c.args.self.now) ≡ Err c.in_err-call_members.field-0.0 =
    λ other. node_err (call_tree c.args.self.now) c.in_err-call_members.field-0.0 (c.in_err-call_members.ensures.err other) in
    search (rules, fault)

pub returns-clause-ok : goal.returns-clause-ok
returns-clause-ok c =
    node_ok (call_tree c.args.self.now) _ c.in_ok-call_members.ensures.fits c.in_ok-call_members.ensures.ok ∙ ap (λ d. Ok d) (sym (view-Object c.in_ok-call_members.field-0))
