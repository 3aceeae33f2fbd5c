use Rattle.std.proofs.Common.{◌≡◌, ◌≢◌, ◌∙◌, Ok, Err, ap, sym, rules}
use Rattle.serde_json.proofs.Views.{view-Object}
use Rattle.promql_ast.specs.View.{trees_of}
use Rattle.promql_json.specs.declared.error.JsonError.TheVariants.{Memory}
use Rattle.promql_json.specs.Json.{args_json}
use Rattle.promql_json.proofs.FaultOrder.{args_ok, args_err}
use Rattle.promql_walk.proofs.to_json.FunctionArgsToJson.to_json.Goals as goal

pub returns-in_err-args_members-clause-err : goal.returns-in_err-args_members-clause-err
returns-in_err-args_members-clause-err c =
    let fault : c.in_err-args_members.field-0.0 ≢ Memory → args_json (trees_of c.args.self.now.args.items) ≡ Err c.in_err-args_members.field-0.0 =
    λ other. args_err (trees_of c.args.self.now.args.items) c.in_err-args_members.field-0.0 (c.in_err-args_members.ensures.err other) in
    search (rules, fault)

pub returns-clause-ok : goal.returns-clause-ok
returns-clause-ok c =
    args_ok (trees_of c.args.self.now.args.items) _ c.in_ok-args_members.ensures.fits c.in_ok-args_members.ensures.ok ∙ ap (λ d. Ok d) (sym (view-Object c.in_ok-args_members.field-0))
