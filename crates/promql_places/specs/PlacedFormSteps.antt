-- What is done for a form with places, step by step. Private: nothing rests on believing it.
use Rattle.std.specs.Prelude.{ℕ, ◌+◌, List, [], ◌∷◌, ◌++◌, length, map, zip, Option, None}
use Rattle.serde_json.specs.Data.{Data}
use Rattle.promql_ast.specs.Fold.{maybe_within, within}
use Rattle.promql_ast.specs.Tree.{Tree, subquery, vector, matrix, MaybeTree, Trees, no_trees, first_tree}
use Rattle.promql_json.specs.JsonFaults.{json_fault}
use Rattle.promql_json.specs.declared.error.JsonError.{JsonError}
use Rattle.promql_places.specs.NodePlaces.{tree_nodes}
use Rattle.promql_places.specs.PlacedForms.{NodePlace, placed_node, with_placed}
use Rattle.promql_places.specs.declared.placed_form.NodesLeft.{NodesLeft}

-- how many nodes a tree has, and a parameter
abbrev pub node_count : Tree → ℕ
node_count t = length (tree_nodes t)

abbrev pub param_count : MaybeTree → ℕ
param_count p = length (maybe_within [] ◌++◌ ◌∷◌ p)

abbrev pub placed_value : Tree → List NodePlace → Data
placed_value t = placed_node (with_placed t) t

abbrev pub left : NodesLeft → List NodePlace
left n = zip n.places.now (map (λ ps. ps.items) n.parts.now)

-- the nodes below one, and how many there are
abbrev pub nodes_within : Tree → List Tree
nodes_within = within [] ◌++◌ ◌∷◌

abbrev pub inner_count : Tree → ℕ
inner_count t = length (nodes_within t)

abbrev pub args_count : Trees → ℕ
args_count no_trees = 0
args_count (first_tree e es) = node_count e + args_count es

-- the first fault of the nodes below one
abbrev pub inner_fault : Tree → Option JsonError
inner_fault (subquery e offset at range step) = json_fault e
inner_fault (vector s) = None
inner_fault (matrix s range mode) = None
inner_fault t = json_fault t
