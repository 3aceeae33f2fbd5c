-- The one-line text of a node, by the texts of its children (docs/reference/printing.md, "Nodes"): by the law
-- `nodes_are_printed` the text of a tree is that of its root.
use Rattle.std.specs.Prelude.{[], ◌∷◌, ◌++◌, codes, unwrap_or}
use Rattle.promql_text.specs.DurationText.{duration_text}
use Rattle.promql_text.specs.NumberText.{number_text}
use Rattle.promql_text.specs.Quoting.{quoted_text}
use Rattle.promql_text.specs.Texts.{Text, joined_text}
use Rattle.promql_token.specs.Ids.{text_of}
use Rattle.promql_label.specs.PlainMatchers.{matchers_text}
use Rattle.promql_kind.specs.Functions.{name_of}
use Rattle.promql_ast.specs.Fold.{within}
use Rattle.promql_ast.specs.Selectors.{Selector, selector}
use Rattle.promql_ast.specs.Shifts.{at_text, offset_text}
use Rattle.promql_ast.specs.Text.{text}
use Rattle.promql_ast.specs.Tree.{Tree, aggregate, unary, binary, paren, subquery, number, string, vector, matrix, call, extension}
use Rattle.promql_ast.specs.node.Aggregate.{clause_text}
use Rattle.promql_ast.specs.node.Binary.{matching_text}
use Rattle.promql_ast.specs.node.Matrix.{mode_text}
use Rattle.promql_ast.specs.node.Subquery.{subquery_text}
use Rattle.promql_ast.specs.node.Vector.{with_braces}

-- the children of the node in parentheses, after a name
abbrev pub call_of : Text → Tree → Text
call_of name t = name ++ (codes "(" ++ (joined_text (codes ", ") (within [] ◌++◌ (λ e below. text e ∷ []) t) ++ codes ")"))

-- a selector with its range, if it has one
abbrev pub ranged_text : Selector → Text → Text
ranged_text (selector name matchers offset at) range =
    unwrap_or name [] ++ (with_braces (matchers_text matchers) ++ (range ++ (at_text at ++ offset_text offset)))

abbrev pub node_text : Tree → Text
node_text (aggregate op e p m) = call_of (text_of op ++ clause_text m) (aggregate op e p m)
node_text (unary e) = codes "-" ++ text e
node_text (binary op l r m) = text l ++ (codes " " ++ (text_of op ++ (matching_text m ++ (codes " " ++ text r))))
node_text (paren e) = codes "(" ++ (text e ++ codes ")")
node_text (subquery e offset at range step) = subquery_text (text e) offset at range step
node_text (number n) = number_text n
node_text (string s) = quoted_text s
node_text (vector s) = ranged_text s []
node_text (matrix s range mode) = ranged_text s (codes "[" ++ (duration_text range ++ (codes "]" ++ mode_text mode)))
node_text (call f args) = call_of (name_of f) (call f args)
node_text (extension name gives es) = call_of name (extension name gives es)
