-- Which nodes are split, node by node, and the layout by such a list. Private: nothing rests on believing it.
use Rattle.std.specs.Prelude.{ℕ, ◌+◌, max, Bool, true, false, if◌then◌else◌, List, [], ◌∷◌, ◌++◌, Option, Some, None, codes}
use Rattle.promql_text.specs.NumberText.{number_text}
use Rattle.promql_text.specs.Quoting.{quoted_text}
use Rattle.promql_text.specs.Texts.{Text, joined_text}
use Rattle.promql_kind.specs.Functions.{name_of}
use Rattle.promql_ast.specs.Layout.{aggregate_lines, unary_line, binary_lines, paren_lines, call_lines}
use Rattle.promql_ast.specs.Lines.{indent, is_longer}
use Rattle.promql_ast.specs.Text.{text}
use Rattle.promql_ast.specs.Tree.{Tree, aggregate, unary, binary, paren, subquery, number, string, vector, matrix, call, extension, MaybeTree, absent, present, Trees, no_trees, first_tree}
use Rattle.promql_ast.specs.node.Matrix.{matrix_text}
use Rattle.promql_ast.specs.node.Subquery.{subquery_text}
use Rattle.promql_ast.specs.node.Vector.{vector_text}

-- the kinds of nodes that have lines of their own
abbrev pub can_split : Tree → Bool
can_split (aggregate op e p m) = true
can_split (binary op l r m) = true
can_split (paren e) = true
can_split (call f args) = true
can_split t = false

-- a node's decision, and those of its operands if it is split
abbrev pub node_decisions : Bool → List Bool → List Bool
node_decisions longer parts = if longer then true ∷ parts else false ∷ []

-- whether each node is split, of those that can be, from the root on
abbrev mutual
  pub decisions : Tree → ℕ → List Bool
  decisions (aggregate op e p m) most = node_decisions (is_longer most (text (aggregate op e p m))) (maybe_decisions p most ++ decisions e most)
  decisions (unary e) most = decisions e most
  decisions (binary op l r m) most = node_decisions (is_longer most (text (binary op l r m))) (decisions l most ++ decisions r most)
  decisions (paren e) most = node_decisions (is_longer most (text (paren e))) (decisions e most)
  decisions (subquery e offset at range step) most = decisions e most
  decisions (number n) most = []
  decisions (string s) most = []
  decisions (vector s) most = []
  decisions (matrix s range mode) most = []
  decisions (call f args) most = node_decisions (is_longer most (text (call f args))) (all_decisions args most)
  decisions (extension name gives es) most = []

  pub maybe_decisions : MaybeTree → ℕ → List Bool
  maybe_decisions absent most = []
  maybe_decisions (present e) most = decisions e most

  pub all_decisions : Trees → ℕ → List Bool
  all_decisions no_trees most = []
  all_decisions (first_tree e es) most = decisions e most ++ all_decisions es most

-- those of a node's operands
abbrev pub operand_decisions : Tree → ℕ → List Bool
operand_decisions (aggregate op e p m) most = maybe_decisions p most ++ decisions e most
operand_decisions (unary e) most = decisions e most
operand_decisions (binary op l r m) most = decisions l most ++ decisions r most
operand_decisions (paren e) most = decisions e most
operand_decisions (subquery e offset at range step) most = decisions e most
operand_decisions (call f args) most = all_decisions args most
operand_decisions t most = []

-- the next decision, and those after it
abbrev pub decision : List Bool → Bool
decision [] = false
decision (b ∷ bs) = b

abbrev pub later : List Bool → List Bool
later [] = []
later (b ∷ bs) = bs

-- the decisions that are left once the node is laid out
abbrev mutual
  pub rest : Tree → List Bool → List Bool
  rest (aggregate op e p m) bs = if decision bs then rest e (maybe_rest p (later bs)) else later bs
  rest (unary e) bs = rest e bs
  rest (binary op l r m) bs = if decision bs then rest r (rest l (later bs)) else later bs
  rest (paren e) bs = if decision bs then rest e (later bs) else later bs
  rest (subquery e offset at range step) bs = rest e bs
  rest (number n) bs = bs
  rest (string s) bs = bs
  rest (vector s) bs = bs
  rest (matrix s range mode) bs = bs
  rest (call f args) bs = if decision bs then all_rest args (later bs) else later bs
  rest (extension name gives es) bs = bs

  pub maybe_rest : MaybeTree → List Bool → List Bool
  maybe_rest absent bs = bs
  maybe_rest (present e) bs = rest e bs

  pub all_rest : Trees → List Bool → List Bool
  all_rest no_trees bs = bs
  all_rest (first_tree e es) bs = all_rest es (rest e bs)

-- those that are left once it is laid out over several lines
abbrev pub lines_rest : Tree → List Bool → List Bool
lines_rest (aggregate op e p m) bs = rest e (maybe_rest p bs)
lines_rest (binary op l r m) bs = rest r (rest l bs)
lines_rest (paren e) bs = rest e bs
lines_rest (call f args) bs = all_rest args bs
lines_rest t bs = bs

-- the layout by the decisions
abbrev mutual
  pub layout_by : Tree → ℕ → List Bool → Text
  layout_by (aggregate op e p m) level bs =
      if decision bs then aggregate_lines op m (maybe_layout_by p (level + 1) (later bs)) (layout_by e (level + 1) (maybe_rest p (later bs))) level
      else indent level ++ text (aggregate op e p m)
  layout_by (unary e) level bs = unary_line (layout_by e level bs) level
  layout_by (binary op l r m) level bs =
      if decision bs then binary_lines op m (layout_by l (level + 1) (later bs)) (layout_by r (level + 1) (rest l (later bs))) level
      else indent level ++ text (binary op l r m)
  layout_by (paren e) level bs = if decision bs then paren_lines (layout_by e (level + 1) (later bs)) level else indent level ++ text (paren e)
  layout_by (subquery e offset at range step) level bs = subquery_text (layout_by e level bs) offset at range step
  layout_by (number n) level bs = indent level ++ number_text n
  layout_by (string s) level bs = indent level ++ quoted_text s
  layout_by (vector s) level bs = indent level ++ vector_text s
  layout_by (matrix s range mode) level bs = indent level ++ matrix_text s range mode
  layout_by (call f args) level bs =
      if decision bs then call_lines (name_of f) (joined_text (codes ",\n") (layouts_by args (level + 1) (later bs))) level
      else indent level ++ text (call f args)
  layout_by (extension name gives es) level bs = text (extension name gives es)

  pub maybe_layout_by : MaybeTree → ℕ → List Bool → Option Text
  maybe_layout_by absent level bs = None
  maybe_layout_by (present e) level bs = Some (layout_by e level bs)

  pub layouts_by : Trees → ℕ → List Bool → List Text
  layouts_by no_trees level bs = []
  layouts_by (first_tree e es) level bs = layout_by e level bs ∷ layouts_by es level (rest e bs)

-- a node over several lines, where it has such a form
abbrev pub lines_by : Tree → ℕ → List Bool → Text
lines_by (aggregate op e p m) level bs = aggregate_lines op m (maybe_layout_by p (level + 1) bs) (layout_by e (level + 1) (maybe_rest p bs)) level
lines_by (binary op l r m) level bs = binary_lines op m (layout_by l (level + 1) bs) (layout_by r (level + 1) (rest l bs)) level
lines_by (paren e) level bs = paren_lines (layout_by e (level + 1) bs) level
lines_by (call f args) level bs = call_lines (name_of f) (joined_text (codes ",\n") (layouts_by args (level + 1) bs)) level
lines_by t level bs = indent level ++ text t

-- the deepest level that they indent to
abbrev mutual
  pub deepest_by : Tree → ℕ → List Bool → ℕ
  deepest_by (aggregate op e p m) level bs =
      if decision bs then max level (max (maybe_deepest_by p (level + 1) (later bs)) (deepest_by e (level + 1) (maybe_rest p (later bs)))) else level
  deepest_by (unary e) level bs = max level (deepest_by e level bs)
  deepest_by (binary op l r m) level bs =
      if decision bs then max level (max (deepest_by l (level + 1) (later bs)) (deepest_by r (level + 1) (rest l (later bs)))) else level
  deepest_by (paren e) level bs = if decision bs then max level (deepest_by e (level + 1) (later bs)) else level
  deepest_by (subquery e offset at range step) level bs = deepest_by e level bs
  deepest_by (number n) level bs = level
  deepest_by (string s) level bs = level
  deepest_by (vector s) level bs = level
  deepest_by (matrix s range mode) level bs = level
  deepest_by (call f args) level bs = if decision bs then max level (all_deepest_by args (level + 1) (later bs)) else level
  deepest_by (extension name gives es) level bs = 0

  pub maybe_deepest_by : MaybeTree → ℕ → List Bool → ℕ
  maybe_deepest_by absent level bs = 0
  maybe_deepest_by (present e) level bs = deepest_by e level bs

  pub all_deepest_by : Trees → ℕ → List Bool → ℕ
  all_deepest_by no_trees level bs = 0
  all_deepest_by (first_tree e es) level bs = max (deepest_by e level bs) (all_deepest_by es level (rest e bs))

abbrev pub lines_deepest_by : Tree → ℕ → List Bool → ℕ
lines_deepest_by (aggregate op e p m) level bs = max level (max (maybe_deepest_by p (level + 1) bs) (deepest_by e (level + 1) (maybe_rest p bs)))
lines_deepest_by (binary op l r m) level bs = max level (max (deepest_by l (level + 1) bs) (deepest_by r (level + 1) (rest l bs)))
lines_deepest_by (paren e) level bs = max level (deepest_by e (level + 1) bs)
lines_deepest_by (call f args) level bs = max level (all_deepest_by args (level + 1) bs)
lines_deepest_by t level bs = level
