use Rattle.std.proofs.Common.{◌≡◌, ◌≢◌, ◌∙◌, Err, ap, rules}
use Rattle.json.specs.Print.{print}
use Rattle.promql_ast.specs.View.{tree_of}
use Rattle.promql_json.specs.Json.{json}
use Rattle.promql_json.specs.declared.error.JsonError.TheVariants.{Memory}
use Rattle.promql_json.proofs.JsonTokens.{has_text, has_fault}
use Rattle.promql_json.proofs.nodes.json_text.Goals as goal

pub returns-in_err-check_expr-clause-err : goal.returns-in_err-check_expr-clause-err
returns-in_err-check_expr-clause-err c =
    let fault : c.in_err-check_expr.field-0.0 ≢ Memory → json (tree_of c.args.expr.now) ≡ Err c.in_err-check_expr.field-0.0 =
    λ other. has_fault (tree_of c.args.expr.now) c.in_err-check_expr.field-0.0 c.in_err-check_expr.ensures.err in
    search (rules, fault)

pub returns-clause-ok : goal.returns-clause-ok
returns-clause-ok c =
    has_text (tree_of c.args.expr.now) _ c.in_ok-check_expr.ensures.fits (c.into_string.ensures ∙ ap print (search rules))
