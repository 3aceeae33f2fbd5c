-- Lists of expressions, one by one: what is left of them.
use Rattle.std.proofs.Common.{◌≡◌, ℕ, zero, suc, ◌+◌, ◌<◌, ◌≤◌, List, [], ◌∷◌, ◌++◌, Bool, length, get_or, drop, take, map, codes, refl, sym, ap, ◌∙◌, add-one, append_assoc, arith, set}
use Rattle.std.specs.Prelude.{◌==◌, if◌then◌else◌}
use Rattle.std.specs.List.{flat_map, join_by}
use Rattle.std.proofs.lemmas.Bool.{ne_eqb}
use Rattle.std.proofs.lemmas.List.{drop_more, drop_all}
use Rattle.promql_text.specs.Texts.{Text, joined_text}
use Rattle.promql_text.specs.PrintedLen.{cap_usize, printed_len}
use Rattle.promql_ast.specs.Nodes.{nodes, all_nodes}
use Rattle.promql_ast.specs.Decisions.{decisions, all_decisions}
use Rattle.promql_ast.specs.Text.{text, texts}
use Rattle.promql_ast.specs.Tree.{Tree}
use Rattle.promql_ast.specs.View.{trees}
use Rattle.promql_ast.proofs.layouts.Lists.{written_all}

drop_next : {X : Type 0} (xs : List X) (i : ℕ) (y : X) → i < length xs → y ≡ get_or xs i y → drop i xs ≡ y ∷ drop (i + 1) xs
drop_next xs i y h e = drop_more xs i y h ∙ ap (λ z. z ∷ drop (i + 1) xs) (sym e)

pub trees_next : {X : Type 0} (f : X → Tree) (xs : List X) (i : ℕ) (y : X) → i < length xs → y ≡ get_or xs i y
    → map f (drop i xs) ≡ f y ∷ map f (drop (i + 1) xs)
trees_next f xs i y h e = ap (map f) (drop_next xs i y h e)

-- the trees of a list in which one place was set to what has the same tree
pub trees_after_set : {X : Type 0} (f : X → Tree) (xs : List X) (i : ℕ) (y z : X) → i < length xs → f z ≡ f (get_or xs i y)
    → map f (set xs i z) ≡ map f xs
trees_after_set f [] i y z h e = absurd (omega (arith, h))
trees_after_set f (x ∷ xs) zero y z h e = ap (λ t. t ∷ map f xs) e
trees_after_set f (x ∷ xs) (suc i) y z h e = ap (λ ts. f x ∷ ts) (trees_after_set f xs i y z (omega (arith, h)) e)

-- texts from the one at i on, with their separators
abbrev pub row_from : Text → ℕ → List Text → Text
row_from sep zero ts = joined_text sep ts
row_from sep (suc n) ts = flat_map (λ t. sep ++ t) ts

row_one : (sep : Text) (i : ℕ) (t : Text) (ts : List Text) → (if i == 0 then [] else sep) ++ (t ++ row_from sep (suc i) ts) ≡ row_from sep i (t ∷ ts)
row_one sep zero t ts = refl
row_one sep (suc i) t ts =
    let after : Text = flat_map (λ u. sep ++ u) ts in
    ap (λ b. (if b then [] else sep) ++ (t ++ after)) (ne_eqb (suc i) 0 (λ e. absurd (omega arith))) ∙ sym (append_assoc sep t after)

pub row_step : (sep : Text) (i : ℕ) (t : Text) (ts : List Text) (a b c : Text) → b ≡ a ++ (if i == 0 then [] else sep) → c ≡ b ++ t → c ++ row_from sep (i + 1) ts ≡ a ++ row_from sep i (t ∷ ts)
row_step sep i t ts a b c p q =
    let mark : Text = if i == 0 then [] else sep in
    (λ k. (q ∙ ap (λ s. s ++ t) p) k ++ row_from sep (add-one i k) ts) ∙ append_assoc (a ++ mark) t _ ∙ append_assoc a mark _ ∙ ap (λ s. a ++ s) (row_one sep i t ts)

pub row_end : (sep : Text) (i : ℕ) → row_from sep i [] ≡ []
row_end sep zero = refl
row_end sep (suc i) = refl

pub decisions_step : {X : Type 0} (f : X → Tree) (xs : List X) (i most : ℕ) (y : X) (a b all : List Bool) → i < length xs → y ≡ get_or xs i y
    → b ≡ a ++ decisions (f y) most → a ++ all_decisions (trees (map f (drop i xs))) most ≡ all → b ++ all_decisions (trees (map f (drop (i + 1) xs))) most ≡ all
decisions_step f xs i most y a b all h e p q =
    ap (λ s. s ++ all_decisions (trees (map f (drop (i + 1) xs))) most) p ∙ append_assoc a _ _ ∙ ap (λ s. a ++ s) (sym (ap (λ ts. all_decisions (trees ts) most) (trees_next f xs i y h e))) ∙ q

pub nodes_step : {X : Type 0} (f : X → Tree) (xs : List X) (i : ℕ) (y : X) (a b all : ℕ) → i < length xs → y ≡ get_or xs i y
    → cap_usize b ≡ cap_usize (a + nodes (f y)) → cap_usize (a + all_nodes (trees (map f (drop i xs)))) ≡ cap_usize all → cap_usize (b + all_nodes (trees (map f (drop (i + 1) xs)))) ≡ cap_usize all
nodes_step f xs i y a b all h e p q = omega (arith, p, q, ap (λ ts. all_nodes (trees ts)) (trees_next f xs i y h e))

pub nodes_end : {X : Type 0} (f : X → Tree) (xs : List X) (i a all : ℕ) → length xs ≤ i → cap_usize (a + all_nodes (trees (map f (drop i xs)))) ≡ cap_usize all → cap_usize a ≡ cap_usize all
nodes_end f xs i a all h p = omega (arith, p, ap (λ ys. all_nodes (trees (map f ys))) (drop_all i xs h))

-- one of them has no more nodes than all of them
nodes_left : {X : Type 0} (f : X → Tree) (xs : List X) (i : ℕ) → all_nodes (trees (map f (drop i xs))) ≤ all_nodes (trees (map f xs))
nodes_left f [] zero = omega arith
nodes_left f [] (suc i) = omega arith
nodes_left f (x ∷ xs) zero = omega arith
nodes_left f (x ∷ xs) (suc i) = omega (arith, nodes_left f xs i)

pub nodes_of_one : {X : Type 0} (f : X → Tree) (xs : List X) (i : ℕ) (y : X) → i < length xs → y ≡ get_or xs i y → nodes (f y) ≤ all_nodes (trees (map f xs))
nodes_of_one f xs i y h e = omega (arith, nodes_left f xs i, ap (λ ts. all_nodes (trees ts)) (trees_next f xs i y h e))

-- the bytes of all of them
pub len_all : {X : Type 0} (f : X → Tree) (xs : List X) (i total : ℕ) → length xs ≤ i → total ≡ printed_len (join_by (λ x. text (f x)) (codes ", ") (take i xs)) → total ≡ printed_len (joined_text (codes ", ") (texts (trees (map f xs))))
len_all f xs i total end so_far = so_far ∙ ap printed_len (written_all f xs i end)
