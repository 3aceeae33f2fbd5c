use Rattle.promql_rewrite.specs.Parenthesizing.{parenthesized}
use Rattle.promql_rewrite.proofs.parentheses.AddedChildren.{by_children, by_node}
use Rattle.promql_rewrite.proofs.rules_broken.NodeParts.{placed_listed, placed_throughout}
use Rattle.promql_rewrite.proofs.parentheses.ParenFewest.{adds, fewest}
use Rattle.promql_rewrite.proofs.parentheses.ParenOrder.{only}
use Rattle.promql_rewrite.proofs.parentheses.ParenPlaces.{unchanged, well_placed}
use Rattle.promql_rewrite.proofs.laws.parentheses_are_fewest.Goals as goal

pub returns : goal.returns
returns c = record {
  placed = λ t. placed_listed (parenthesized t) (well_placed t);
  added = λ t. by_children t (parenthesized t) (adds t);
  fewest = λ t u a h. by_children (parenthesized t) u (fewest t u (by_node t u a) (placed_throughout u h));
  only = λ t u a h least. only t u (by_node t u a) (placed_throughout u h) (λ v b k. by_node u v (least v (by_children t v b) (placed_listed v k)));
  unchanged = λ t h. unchanged t (placed_throughout t h);
}
