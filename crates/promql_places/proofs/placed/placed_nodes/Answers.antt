use Rattle.promql_ast.specs.View.{tree_of}
use Rattle.promql_places.proofs.PlacedAnswers.{found, parts_found}
use Rattle.promql_places.proofs.placed.placed_nodes.Goals as goal

pub returns-clause-places : goal.returns-clause-places
returns-clause-places c =
    let old = c.new-placing.ensures in
    found c.args.text.now (tree_of c.args.expr.now) c.new-placing.result c.place_expr.new.placing c.tokens_are_placed.ensures.whole old.over old.all old.none old.bare c.in_ok-place_expr.ensures

pub returns-clause-parts : goal.returns-clause-parts
returns-clause-parts c =
    let old = c.new-placing.ensures in
    parts_found c.args.text.now (tree_of c.args.expr.now) c.new-placing.result c.place_expr.new.placing c.tokens_are_placed.ensures.whole old.over old.all old.none old.bare c.in_ok-place_expr.ensures
