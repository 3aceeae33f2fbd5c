-- A node laid out over lines, by the layouts of its children (docs/reference/printing.md, "Nodes over several lines"):
-- by the law `nodes_are_laid_out` the layout of a tree is that of its root.
use Rattle.std.specs.Prelude.{ℕ, ◌+◌, max, if◌then◌else◌, [], ◌∷◌, ◌++◌, codes}
use Rattle.promql_text.specs.Texts.{Text, joined_text}
use Rattle.promql_token.specs.Ids.{text_of}
use Rattle.promql_kind.specs.Functions.{name_of}
use Rattle.promql_ast.specs.Fold.{within}
use Rattle.promql_ast.specs.Layout.{deepest, layout_of, without_indent}
use Rattle.promql_ast.specs.Lines.{indent, is_longer}
use Rattle.promql_ast.specs.Text.{text}
use Rattle.promql_ast.specs.Tree.{Tree, aggregate, unary, binary, paren, subquery, call, extension}
use Rattle.promql_ast.specs.node.Aggregate.{clause_text}
use Rattle.promql_ast.specs.node.Binary.{matching_text}
use Rattle.promql_ast.specs.node.Subquery.{subquery_text}

-- the children of the node on lines of their own, one level deeper, between the parentheses after a name
abbrev pub enclosed : Text → Tree → ℕ → ℕ → Text
enclosed name t level most =
    let parts = within [] ◌++◌ (λ e below. layout_of e (level + 1) most ∷ []) t in
    indent level ++ (name ++ (codes "(\n" ++ (joined_text (codes ",\n") parts ++ (codes "\n" ++ (indent level ++ codes ")")))))

-- a node over several lines, where it has such a form
abbrev pub node_lines : Tree → ℕ → ℕ → Text
node_lines (aggregate op e p m) level most = enclosed (text_of op ++ clause_text m) (aggregate op e p m) level most
node_lines (binary op l r m) level most =
    layout_of l (level + 1) most
    ++ (codes "\n" ++ (indent level ++ (text_of op ++ (matching_text m ++ (codes "\n" ++ layout_of r (level + 1) most)))))
node_lines (paren e) level most = enclosed [] (paren e) level most
node_lines (call f args) level most = enclosed (name_of f) (call f args) level most
node_lines t level most = indent level ++ text t

-- the one line if it fits, else the lines
abbrev pub node_layout : Tree → ℕ → ℕ → Text
node_layout (unary e) level most = indent level ++ (codes "-" ++ without_indent (layout_of e level most))
node_layout (subquery e offset at range step) level most = subquery_text (layout_of e level most) offset at range step
node_layout (extension name gives es) level most = text (extension name gives es)
node_layout t level most = if is_longer most (text t) then node_lines t level most else indent level ++ text t

-- ---- the deepest level that the lines, and the layout, indent to

abbrev pub lines_depth : Tree → ℕ → ℕ → ℕ
lines_depth (unary e) level most = level
lines_depth (subquery e offset at range step) level most = level
lines_depth (extension name gives es) level most = level
lines_depth t level most = max level (within 0 max (λ e below. deepest e (level + 1) most) t)

abbrev pub layout_depth : Tree → ℕ → ℕ → ℕ
layout_depth (unary e) level most = max level (deepest e level most)
layout_depth (subquery e offset at range step) level most = deepest e level most
layout_depth (extension name gives es) level most = 0
layout_depth t level most = if is_longer most (text t) then lines_depth t level most else level
