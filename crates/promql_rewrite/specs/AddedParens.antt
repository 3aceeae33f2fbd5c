-- Trees that differ in parentheses alone (docs/guide/rewriting.md, "Parentheses").
use Rattle.std.specs.Prelude.{◌≡◌}
use Rattle.promql_ast.specs.Tree.{Tree, paren, Trees, no_trees, first_tree}
use Rattle.promql_walk.specs.Children.{children, with_children}

mutual
  -- the second tree has the parentheses of the first, and maybe more: without those it is the first
  pub data AddsParens : Tree → Tree → Type 0 where
    added : {t u : Tree} → AddsParens t u → AddsParens t (paren u)
    -- with the first node's children the second node is the first
    alike : {t u : Tree} → with_children u (children t) ≡ t → EachAddsParens (children t) (children u) → AddsParens t u

  pub data EachAddsParens : Trees → Trees → Type 0 where
    no_more : EachAddsParens no_trees no_trees
    one_more : {t u : Tree} {ts us : Trees} → AddsParens t u → EachAddsParens ts us → EachAddsParens (first_tree t ts) (first_tree u us)
