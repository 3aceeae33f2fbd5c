-- The tree of a node by reference. Private: nothing rests on believing it.
use Rattle.promql_ast.specs.declared.layout.node.Node.{Node}
use Rattle.promql_ast.specs.declared.layout.node.Node.TheVariants.{Aggregate, Unary, Binary, Paren, Subquery, NumberLiteral, StringLiteral, VectorSelector, MatrixSelector, Call, Extension}
use Rattle.std.specs.Prelude.{string_bytes}
use Rattle.promql_ast.specs.Tree.{Tree, number, string}
use Rattle.promql_ast.specs.View.{aggregate_tree, binary_tree, call_tree, extension_tree, matrix_tree, paren_tree, subquery_tree, unary_tree, vector_tree}

abbrev pub tree_of_node : Node → Tree
tree_of_node (Aggregate e) = aggregate_tree e.now
tree_of_node (Unary e) = unary_tree e.now
tree_of_node (Binary e) = binary_tree e.now
tree_of_node (Paren e) = paren_tree e.now
tree_of_node (Subquery e) = subquery_tree e.now
tree_of_node (NumberLiteral e) = number e.now.val
tree_of_node (StringLiteral e) = string (string_bytes e.now.val)
tree_of_node (VectorSelector e) = vector_tree e.now
tree_of_node (MatrixSelector e) = matrix_tree e.now
tree_of_node (Call e) = call_tree e.now
tree_of_node (Extension e) = extension_tree e.now
