-- A tree laid out over lines (docs/reference/printing.md, "Nodes over several lines"): by the law `nodes_are_laid_out` its
-- layout and its lines are those of `NodeLines`.
use Rattle.std.specs.Prelude.{ℕ, ◌+◌, ◌==◌, max, Bool, true, false, not, ◌&&◌, if◌then◌else◌, List, [], ◌∷◌, ◌++◌, Option, Some, None, codes}
use Rattle.std.specs.Option.{option_map_or}
use Rattle.promql_text.specs.Texts.{Text, joined_text, code}
use Rattle.promql_token.specs.Ids.{text_of}
use Rattle.promql_kind.specs.Functions.{name_of}
use Rattle.promql_kind.specs.Modifiers.{Clause, Matching}
use Rattle.promql_ast.specs.Fold.{folded, within, maybe_within, all_within}
use Rattle.promql_ast.specs.Lines.{indent, is_longer}
use Rattle.promql_ast.specs.Text.{text}
use Rattle.promql_ast.specs.Tree.{Tree, aggregate, unary, binary, paren, subquery, number, string, vector, matrix, call, extension, MaybeTree, absent, present, Trees, no_trees, first_tree}
use Rattle.promql_ast.specs.node.Aggregate.{head_text}
use Rattle.promql_ast.specs.node.Binary.{matching_text}
use Rattle.promql_ast.specs.node.Subquery.{subquery_text}

-- the one line if it fits, else the lines
abbrev pub line_or_lines : Text → Text → ℕ → ℕ → Text
line_or_lines line lines level most = if is_longer most line then lines else indent level ++ line

-- without the spaces that it begins with
abbrev pub without_indent : Text → Text
without_indent [] = []
without_indent (b ∷ t) = if b == code " " then without_indent t else b ∷ t

-- ---- a node's lines from its parts' layouts

abbrev pub param_lines : Option Text → Text
param_lines p = option_map_or (λ t. t ++ codes ",\n") p []

abbrev pub aggregate_lines : ℕ → Option Clause → Option Text → Text → ℕ → Text
aggregate_lines op m p e level =
    indent level ++ (head_text op m ++ (codes "(\n" ++ (param_lines p ++ (e ++ (codes "\n" ++ (indent level ++ codes ")"))))))

abbrev pub unary_line : Text → ℕ → Text
unary_line e level = indent level ++ (codes "-" ++ without_indent e)

abbrev pub binary_lines : ℕ → Option Matching → Text → Text → ℕ → Text
binary_lines op m l r level = l ++ (codes "\n" ++ (indent level ++ (text_of op ++ (matching_text m ++ (codes "\n" ++ r)))))

abbrev pub paren_lines : Text → ℕ → Text
paren_lines e level = indent level ++ (codes "(\n" ++ (e ++ (codes "\n" ++ (indent level ++ codes ")"))))

abbrev pub call_lines : Text → Text → ℕ → Text
call_lines name args level = indent level ++ (name ++ (codes "(\n" ++ (args ++ (codes "\n" ++ (indent level ++ codes ")")))))

-- ---- the layout of a tree at a level, where a line has at most so many bytes

abbrev mutual
  pub layout_of : Tree → ℕ → ℕ → Text
  layout_of (aggregate op e p m) level most =
      line_or_lines (text (aggregate op e p m)) (aggregate_lines op m (maybe_layout_of p (level + 1) most) (layout_of e (level + 1) most) level) level most
  layout_of (unary e) level most = unary_line (layout_of e level most) level
  layout_of (binary op l r m) level most =
      line_or_lines (text (binary op l r m)) (binary_lines op m (layout_of l (level + 1) most) (layout_of r (level + 1) most) level) level most
  layout_of (paren e) level most = line_or_lines (text (paren e)) (paren_lines (layout_of e (level + 1) most) level) level most
  layout_of (subquery e offset at range step) level most = subquery_text (layout_of e level most) offset at range step
  layout_of (call f args) level most =
      line_or_lines (text (call f args)) (call_lines (name_of f) (joined_text (codes ",\n") (layouts_of args (level + 1) most)) level) level most
  layout_of (extension name gives es) level most = text (extension name gives es)
  layout_of t level most = indent level ++ text t

  pub maybe_layout_of : MaybeTree → ℕ → ℕ → Option Text
  maybe_layout_of absent level most = None
  maybe_layout_of (present e) level most = Some (layout_of e level most)

  pub layouts_of : Trees → ℕ → ℕ → List Text
  layouts_of no_trees level most = []
  layouts_of (first_tree e es) level most = layout_of e level most ∷ layouts_of es level most

-- a node over several lines, where it has such a form
abbrev pub lines : Tree → ℕ → ℕ → Text
lines (aggregate op e p m) level most = aggregate_lines op m (maybe_layout_of p (level + 1) most) (layout_of e (level + 1) most) level
lines (binary op l r m) level most = binary_lines op m (layout_of l (level + 1) most) (layout_of r (level + 1) most) level
lines (paren e) level most = paren_lines (layout_of e (level + 1) most) level
lines (call f args) level most = call_lines (name_of f) (joined_text (codes ",\n") (layouts_of args (level + 1) most)) level
lines t level most = indent level ++ text t

-- the nodes that never need a split
abbrev pub is_leaf : Tree → Bool
is_leaf (number n) = true
is_leaf (string s) = true
is_leaf (vector s) = true
is_leaf (matrix s range mode) = true
is_leaf t = false

-- ---- the deepest level that a layout indents to

-- of a node, by the deepest of its children at each level
abbrev pub deepest_node : ℕ → Tree → (ℕ → ℕ) → ℕ → ℕ
deepest_node most (unary e) below level = max level (below level)
deepest_node most (subquery e offset at range step) below level = below level
deepest_node most (extension name gives es) below level = 0
deepest_node most t below level = if not (is_leaf t) && is_longer most (text t) then max level (below (level + 1)) else level

abbrev pub deepest : Tree → ℕ → ℕ → ℕ
deepest t level most = folded (λ n. 0) (λ f g n. max (f n) (g n)) (deepest_node most) t level

abbrev pub maybe_deepest : MaybeTree → ℕ → ℕ → ℕ
maybe_deepest p level most = maybe_within (λ n. 0) (λ f g n. max (f n) (g n)) (deepest_node most) p level

abbrev pub deepests : Trees → ℕ → ℕ → ℕ
deepests ts level most = all_within (λ n. 0) (λ f g n. max (f n) (g n)) (deepest_node most) ts level

abbrev pub lines_deepest : Tree → ℕ → ℕ → ℕ
lines_deepest (unary e) level most = level
lines_deepest (subquery e offset at range step) level most = level
lines_deepest (extension name gives es) level most = level
lines_deepest t level most = if is_leaf t then level else max level (within (λ n. 0) (λ f g n. max (f n) (g n)) (deepest_node most) t (level + 1))
