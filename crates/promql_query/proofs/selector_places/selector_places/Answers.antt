use Rattle.promql_ast.specs.View.{tree_of}
use Rattle.promql_query.specs.declared.selector_places.Walk.{Walk}
use Rattle.promql_query.proofs.SelectorWalks.{all_found}
use Rattle.std.proofs.Common.{refl}
use Rattle.promql_query.proofs.selector_places.selector_places.Goals as goal

pub returns : goal.returns
returns c =
    let before : Walk = record { left = c.args.places; found = c.new.result } in
    all_found (tree_of c.args.expr.now) c.args.places.now before c.walk_expr.new.walk refl c.new.ensures.items c.in_ok-walk_expr.ensures
