-- Lists of expressions that are written one by one.
use Rattle.std.proofs.Common.{◌≡◌, ℕ, ◌≤◌, List, [], ◌∷◌, length, take, map, codes, refl, sym, ap, ◌∙◌}
use Rattle.std.specs.List.{join_by}
use Rattle.promql_text.specs.Texts.{joined_text}
use Rattle.promql_text.proofs.writing.Joins.{join_end}
use Rattle.promql_ast.specs.Text.{text, texts}
use Rattle.promql_ast.specs.Tree.{Tree}
use Rattle.promql_ast.specs.View.{trees}

texts_trees : {X : Type 0} (f : X → Tree) (xs : List X) → texts (trees (map f xs)) ≡ map (λ x. text (f x)) xs
texts_trees f [] = refl
texts_trees f (x ∷ xs) = ap (λ ts. text (f x) ∷ ts) (texts_trees f xs)

-- all of them are written
pub written_all : {X : Type 0} (f : X → Tree) (xs : List X) (i : ℕ) → length xs ≤ i
    → join_by (λ x. text (f x)) (codes ", ") (take i xs) ≡ joined_text (codes ", ") (texts (trees (map f xs)))
written_all f xs i h = join_end (λ x. text (f x)) (codes ", ") xs i h ∙ ap (joined_text (codes ", ")) (sym (texts_trees f xs))
