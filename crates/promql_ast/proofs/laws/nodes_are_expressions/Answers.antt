use Rattle.std.proofs.Common.{refl, sym}
use Rattle.promql_ast.proofs.laws.nodes_are_expressions.Goals as goal
use Rattle.promql_ast.proofs.nodes.NodeParts.{tree_of_aggregate, tree_of_call, tree_of_extension}

pub returns : goal.returns
returns c = record {
  aggregate = λ a. sym (tree_of_aggregate a);
  unary = λ u. refl;
  binary = λ b. refl;
  paren = λ p. refl;
  subquery = λ s. refl;
  vector = λ v. refl;
  matrix = λ m. refl;
  call = λ c. sym (tree_of_call c);
  extension = λ e. sym (tree_of_extension e);
}
