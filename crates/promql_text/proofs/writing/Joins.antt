-- A list that is written item by item, with a separator before each but the first.
use Rattle.std.proofs.Common.{◌≡◌, ℕ, zero, suc, ◌+◌, ◌<◌, ◌≤◌, List, [], ◌∷◌, ◌++◌, length, get_or, take, map, Option, Some, Result, refl, sym, ap, subst, ◌∙◌, append_assoc, append-nil, arith}
use Rattle.std.specs.Prelude.{◌==◌, if◌then◌else◌}
use Rattle.std.specs.Fmt.{DisplaysOnOk, WritesOnOk}
use Rattle.std.specs.declared.fmt.Error.{Error}
use Rattle.std.specs.declared.fmt.Formatter.{Formatter}
use Rattle.std.specs.List.{flat_map, join_by}
use Rattle.std.proofs.lemmas.Bool.{ne_eqb}
use Rattle.std.proofs.lemmas.List.{take_more, take_all, flat_map_more}
use Rattle.std.proofs.lemmas.Simd.{map-map}
use Rattle.std.proofs.lemmas.List.Folds.{flat_map-map}
use Rattle.promql_text.specs.Texts.{Text, joined_text}

-- what is written of the list is its items' texts, joined
pub join_by-joined : {X : Type 0} (f : X → Text) (sep : Text) (xs : List X) → join_by f sep xs ≡ joined_text sep (map f xs)
join_by-joined f sep [] = refl
join_by-joined f sep (x ∷ xs) = ap (λ t. f x ++ t) (sym (flat_map-map (λ y. sep ++ y) f xs))

join_more : {X : Type 0} (f : X → Text) (sep : Text) (xs : List X) (i : ℕ) (d : X) → i < length xs
    → (join_by f sep (take i xs) ++ (if i == 0 then [] else sep)) ++ f (get_or xs i d) ≡ join_by f sep (take (i + 1) xs)
join_more f sep [] i d h = absurd (omega arith)
join_more f sep (x ∷ xs) zero d h = sym (append-nil (f x))
join_more f sep (x ∷ xs) (suc i) d h =
    let step : suc (i + 1) ≡ suc i + 1 = omega arith in
    let written : Text = join_by f sep (take (suc i) (x ∷ xs)) in
    ap (λ b. (written ++ (if b then [] else sep)) ++ f (get_or xs i d)) (ne_eqb (suc i) 0 (λ e. absurd (omega arith)))
    ∙ append_assoc written sep (f (get_or xs i d)) ∙ flat_map_more (λ y. sep ++ f y) (f x) (take i xs) (get_or xs i d)
    ∙ ap (λ ys. f x ++ flat_map (λ y. sep ++ f y) ys) (sym (take_more xs i d (omega arith))) ∙ ap (λ n. join_by f sep (take n (x ∷ xs))) step

-- the separator, and the item y at i, after the first i items
pub join_next : {X : Type 0} (f : X → Text) (sep : Text) (xs : List X) (i : ℕ) (y : X) → i < length xs → y ≡ get_or xs i y
    → (join_by f sep (take i xs) ++ (if i == 0 then [] else sep)) ++ f y ≡ join_by f sep (take (i + 1) xs)
join_next f sep xs i y h e = ap (λ z. (join_by f sep (take i xs) ++ (if i == 0 then [] else sep)) ++ f z) e ∙ join_more f sep xs i y h

-- all items
pub join_end : {X : Type 0} (f : X → Text) (sep : Text) (xs : List X) (i : ℕ) → length xs ≤ i → join_by f sep (take i xs) ≡ joined_text sep (map f xs)
join_end f sep xs i h = ap (join_by f sep) (take_all i xs h) ∙ join_by-joined f sep xs

-- what a value displays is its text, where its output is known
pub writes_what_it_displays : {W : Type 0} (took : W → Text → W → Type 0) (f : Formatter W) (r : Result (Unit {0}) Error) (o : Option Text) (text : Text) (g : Formatter W) → o ≡ Some text
    → DisplaysOnOk took f r o g → WritesOnOk took f r text g
writes_what_it_displays took f r o text g is writes = subst (λ p. DisplaysOnOk took f r p g) is writes

-- all items, by what contracts see of them
pub join_end_of : {X Y : Type 0} (f : Y → Text) (h : X → Y) (sep : Text) (xs : List X) (i : ℕ) → length xs ≤ i
    → join_by (λ x. f (h x)) sep (take i xs) ≡ joined_text sep (map f (map h xs))
join_end_of f h sep xs i end = join_end (λ x. f (h x)) sep xs i end ∙ ap (joined_text sep) (sym (map-map f h xs))
