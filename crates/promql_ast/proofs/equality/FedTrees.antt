-- The trees of a list, fed one by one.
use Rattle.std.proofs.Common.{◌≡◌, ◌∙◌, ℕ, ◌≤◌, List, fold, length, drop, map, drop_of_length-le, sym, ap}
use Rattle.std.specs.Hash.{fed_then, usize}
use Rattle.promql_ast.specs.Arguments.{count}
use Rattle.promql_ast.specs.Tree.{Tree}
use Rattle.promql_ast.specs.TreeFeed.{each_feed, trees_feed}
use Rattle.promql_ast.specs.View.{trees}
use Rattle.promql_ast.proofs.nodes.Args.{count_trees}

-- where no item is left, the list is fed
pub fed_all : {S X : Type 0} (write : S → List ℕ → S) (f : X → Tree) (r s t : S) (xs : List X) (i : ℕ) → length xs ≤ i
    → s ≡ fold write r (usize (length xs))
    → fold write t (each_feed (trees (map f (drop i xs)))) ≡ fold write s (each_feed (trees (map f xs)))
    → t ≡ fold write r (trees_feed (trees (map f xs)))
fed_all write f r s t xs i over long so_far =
    fed_then write r s t (usize (count (trees (map f xs)))) (each_feed (trees (map f xs)))
    (long ∙ ap (λ n. fold write r (usize n)) (count_trees f xs))
    (sym (ap (λ ys. fold write t (each_feed (trees (map f ys)))) (drop_of_length-le xs over)) ∙ so_far)
