-- The later one of two times, and the last one of a list of windows.
use Rattle.std.proofs.Common.{◌≡◌, ◌∙◌, refl, sym, ap, arith, ℕ, ◌+◌, ◌<◌, ◌≤◌, Option, Some, None, List, ◌∷◌, drop, get_or, length, option_map}
use Rattle.std.specs.Prelude.{ℤ}
use Rattle.std.specs.Int.{int_max}
use Rattle.std.proofs.lemmas.List.{drop_all, drop_more}
use Rattle.promql_when.specs.Last.{last_of, later}
use Rattle.promql_when.specs.Found.{found_of}
use Rattle.promql_when.specs.declared.reading.SelectorWindow.{SelectorWindow}

max_of_three : (x y z : ℤ) → int_max (int_max x y) z ≡ int_max x (int_max y z)
max_of_three x y z = grind arith

later_of_three : (a b c : Option ℤ) → later (later a b) c ≡ later a (later b c)
later_of_three None b c = refl
later_of_three (Some x) None c = refl
later_of_three (Some x) (Some y) None = refl
later_of_three (Some x) (Some y) (Some z) = ap Some (max_of_three x y z)

later_alone : (a : Option ℤ) → later a None ≡ a
later_alone None = refl
later_alone (Some x) = refl

module _ (xs : List SelectorWindow) (i : ℕ) (last all : Option ℤ) where
  -- after one more window
  pub one_later : (y : SelectorWindow) (next : Option ℤ) → i < length xs → y ≡ get_or xs i y → next ≡ later last (option_map (λ w. w.last) y.window)
      → later last (last_of (found_of (drop i xs))) ≡ all → later next (last_of (found_of (drop (i + 1) xs))) ≡ all
  one_later y next within same more rest =
      let others = last_of (found_of (drop (i + 1) xs)) in
      ap (λ n. later n others) more
      ∙ later_of_three last (option_map (λ w. w.last) y.window) others
      ∙ ap (λ ys. later last (last_of (found_of ys))) (sym (drop_more xs i y within ∙ ap (λ z. z ∷ drop (i + 1) xs) (sym same)))
      ∙ rest

  -- after all
  pub last_later : length xs ≤ i → later last (last_of (found_of (drop i xs))) ≡ all → last ≡ all
  last_later end rest = sym (later_alone last) ∙ ap (λ ys. later last (last_of (found_of ys))) (sym (drop_all i xs end)) ∙ rest
