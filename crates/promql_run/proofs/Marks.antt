-- The mark of a text in a colour, from the last caret on.
use Rattle.std.proofs.Common.{◌≡◌, ◌≢◌, ℕ, zero, suc, ◌<◌, Bool, true, false, List, [], ◌∷◌, ◌++◌, length, take, drop, get_or, refl, ap, ◌∙◌, arith}
use Rattle.std.specs.Prelude.{◌==◌, ◌&&◌, ◌||◌, if◌then◌else◌, is_ok, not, OnOk, Result, Ok, Err}
use Rattle.std.specs.List.{list_any}
use Rattle.std.proofs.lemmas.Bool.{eq-eqb, ne_eqb}
use Rattle.std.proofs.lemmas.List.Folds.{list_any_at}
use Rattle.promql_run.specs.Colors.{marked, painted}

abbrev is_caret : ℕ → Bool
is_caret b = b == 94

no_caret : (bs : List ℕ) → ((i : ℕ) → i < length bs → get_or bs i 0 ≢ 94) → list_any is_caret bs ≡ false
no_caret [] none = refl
no_caret (b ∷ bs) none =
    ap (λ x. x || list_any is_caret bs) (ne_eqb b 94 (none 0 (omega arith)))
    ∙ no_caret bs (λ i within. none (suc i) (omega (arith, within)))

-- a text without a caret has no mark
pub unmarked : (colors : Bool) (color text : List ℕ) → ((i : ℕ) → i < length text → get_or text i 0 ≢ 94) → marked colors color text ≡ text
unmarked colors color [] none = refl
unmarked colors color (b ∷ bs) none =
    ap (λ x. if x && not (list_any is_caret bs) then painted colors color (b ∷ bs) else b ∷ marked colors color bs) (ne_eqb b 94 (none 0 (omega arith)))
    ∙ ap (λ l. b ∷ l) (unmarked colors color bs (λ i within. none (suc i) (omega (arith, within))))

-- the mark of another begins at the last one
pub marked_at : (colors : Bool) (color text : List ℕ) (k : ℕ) → k < length text → get_or text k 0 ≡ 94 → ((i : ℕ) → k < i → i < length text → get_or text i 0 ≢ 94)
    → marked colors color text ≡ take k text ++ painted colors color (drop k text)
marked_at colors color [] k within caret last = absurd (omega (arith, within))
marked_at colors color (b ∷ bs) zero within caret last =
    let none : list_any is_caret bs ≡ false = no_caret bs (λ i inside. last (suc i) (omega arith) (omega (arith, inside))) in
    ap (λ x. if x && not (list_any is_caret bs) then painted colors color (b ∷ bs) else b ∷ marked colors color bs) (eq-eqb b 94 caret)
    ∙ ap (λ x. if not x then painted colors color (b ∷ bs) else b ∷ marked colors color bs) none
marked_at colors color (b ∷ bs) (suc k) within caret last =
    let inside : k < length bs = omega (arith, within) in
    let some : list_any is_caret bs ≡ true = list_any_at is_caret bs k 0 inside (eq-eqb (get_or bs k 0) 94 caret) in
    ap (λ x. if (b == 94) && not x then painted colors color (b ∷ bs) else b ∷ marked colors color bs) some
    ∙ other (b == 94)
    ∙ ap (λ l. b ∷ l) (marked_at colors color bs k inside caret (λ i past in_bs. last (suc i) (omega (arith, past)) (omega (arith, in_bs))))
  where
    other : (x : Bool) → (if x && not true then painted colors color (b ∷ bs) else b ∷ marked colors color bs) ≡ b ∷ marked colors color bs
    other true = refl
    other false = refl

-- what a push that succeeded has appended
pub on_pushed : {T E : Type 0} (r : Result T E) (old new part text : List ℕ) → new ≡ (if is_ok r then old ++ part else old) → part ≡ text → OnOk r (new ≡ old ++ text)
on_pushed (Ok x) old new part text pushed same = pushed ∙ ap (λ l. old ++ l) same
on_pushed (Err e) old new part text pushed same = tt
