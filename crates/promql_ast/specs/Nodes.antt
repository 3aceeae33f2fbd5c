-- How many nodes a tree has (docs/reference/printing.md, "One width a node").
use Rattle.std.specs.Prelude.{ℕ, ◌+◌}
use Rattle.promql_ast.specs.Fold.{folded, maybe_within, all_within}
use Rattle.promql_ast.specs.Tree.{Tree, MaybeTree, Trees}

abbrev pub nodes : Tree → ℕ
nodes = folded 0 ◌+◌ (λ t below. 1 + below)

abbrev pub maybe_nodes : MaybeTree → ℕ
maybe_nodes = maybe_within 0 ◌+◌ (λ t below. 1 + below)

abbrev pub all_nodes : Trees → ℕ
all_nodes = all_within 0 ◌+◌ (λ t below. 1 + below)
