-- Private: the first fault of a tree, by recursion on the tree, and the members of a list of arguments. No contract of a public
-- function speaks of it.
use Rattle.std.specs.Prelude.{[], ◌∷◌, Option, Some, None, codes}
use Rattle.std.specs.Option.{option_or}
use Rattle.serde_json.specs.Data.{array, Members}
use Rattle.promql_ast.specs.Tree.{Tree, aggregate, unary, binary, paren, subquery, number, string, vector, matrix, call, extension, MaybeTree, absent, present, Trees, no_trees, first_tree}
use Rattle.promql_json.specs.declared.error.JsonError.{JsonError}
use Rattle.promql_json.specs.declared.error.JsonError.TheVariants.{Extension}
use Rattle.promql_json.specs.Json.{args_items, own_fault}
use Rattle.promql_json.specs.JsonParts.{members}

abbrev mutual
  -- the node's own, then those of its children
  pub json_fault : Tree → Option JsonError
  json_fault (aggregate op e p m) = option_or (param_fault p) (json_fault e)
  json_fault (unary e) = json_fault e
  json_fault (binary op l r m) = option_or (json_fault l) (json_fault r)
  json_fault (paren e) = json_fault e
  json_fault (subquery e offset at range step) = option_or (own_fault (subquery e offset at range step)) (json_fault e)
  json_fault (number n) = None
  json_fault (string s) = None
  json_fault (vector s) = own_fault (vector s)
  json_fault (matrix s range mode) = own_fault (matrix s range mode)
  json_fault (call f args) = args_fault args
  json_fault (extension name gives es) = Some Extension

  pub param_fault : MaybeTree → Option JsonError
  param_fault absent = None
  param_fault (present e) = json_fault e

  pub args_fault : Trees → Option JsonError
  args_fault no_trees = None
  args_fault (first_tree e es) = option_or (json_fault e) (args_fault es)

abbrev pub args_members : Trees → Members
args_members ts = members ((codes "args", array (args_items ts)) ∷ [])
