use Rattle.promql_ast.specs.SameLaws.{tree_eq-Decides}
use Rattle.promql_ast.specs.View.{aggregate_tree, binary_tree, call_tree, extension_tree, matrix_tree, paren_tree, subquery_tree, unary_tree, vector_tree}
use Rattle.promql_ast.proofs.laws.equal_nodes.Goals as goal

pub returns : goal.returns
returns c = record {
  aggregate = λ a b. tree_eq-Decides (aggregate_tree a) (aggregate_tree b);
  unary = λ a b. tree_eq-Decides (unary_tree a) (unary_tree b);
  binary = λ a b. tree_eq-Decides (binary_tree a) (binary_tree b);
  paren = λ a b. tree_eq-Decides (paren_tree a) (paren_tree b);
  subquery = λ a b. tree_eq-Decides (subquery_tree a) (subquery_tree b);
  vector = λ a b. tree_eq-Decides (vector_tree a) (vector_tree b);
  matrix = λ a b. tree_eq-Decides (matrix_tree a) (matrix_tree b);
  call = λ a b. tree_eq-Decides (call_tree a) (call_tree b);
  extension = λ a b. tree_eq-Decides (extension_tree a) (extension_tree b);
}
