-- What lies within windows lies at or before the last time of them.
use Rattle.std.proofs.Common.{◌≡◌, refl, sym, ap, arith, Bool, true, false, true≢false, ◌&&◌, Option, Some, None, List, [], ◌∷◌}
use Rattle.std.proofs.lemmas.Bool.{and_parts}
use Rattle.std.specs.Prelude.{ℤ, int_le, option_map}
use Rattle.std.specs.Int.{int_max}
use Rattle.std.specs.Int.Signed.{◌≤ℤ◌}
use Rattle.std.specs.Option.{option_map_or}
use Rattle.promql_ast.specs.Selectors.{Selector}
use Rattle.promql_when.specs.Last.{last_of, later}
use Rattle.promql_when.specs.Reads.{lies_within}
use Rattle.promql_when.specs.Windows.{is_within}
use Rattle.promql_when.specs.declared.times.Window.{Window}
use Rattle.promql_when.proofs.Orders.{le_of, le_trans, or_cases}

max_left : (a b : ℤ) → a ≤ℤ int_max a b
max_left a b = grind arith

max_right : (a b : ℤ) → b ≤ℤ int_max a b
max_right a b = grind arith

abbrev pub UpTo : ℤ → Option ℤ → Type 0
UpTo z last = (l : ℤ) × (last ≡ Some l) × (z ≤ℤ l)

one_before : (z x : ℤ) (last : Option ℤ) → z ≤ℤ x → UpTo z (later (Some x) last)
one_before z x None is = (x, refl, is)
one_before z x (Some y) is = (int_max x y, refl, le_trans z x (int_max x y) is (max_left x y))

others_before : (z : ℤ) (x last : Option ℤ) → UpTo z last → UpTo z (later x last)
others_before z None last upto = upto
others_before z (Some x) last (l, is, early) = (int_max x l, ap (later (Some x)) is, le_trans z l (int_max x l) early (max_right x l))

at_window : (z : ℤ) (w : Window) → is_within w z ≡ true → z ≤ℤ w.last
at_window z w is = le_of z w.last (and_parts (int_le w.first z) (int_le z w.last) is).1

module _ (is_one : Selector → Bool) (z : ℤ) where
  at_one : (s : Selector) (w : Option Window) (last : Option ℤ) → is_one s && option_map_or (λ w. is_within w z) w false ≡ true
      → UpTo z (later (option_map (λ w. w.last) w) last)
  at_one s None last is = absurd (true≢false (sym (and_parts (is_one s) false is).1))
  at_one s (Some w) last is = one_before z w.last last (at_window z w (and_parts (is_one s) (is_within w z) is).1)

  pub up_to_last : (ws : List (Selector × Option Window)) → lies_within is_one z ws ≡ true → UpTo z (last_of ws)
  up_to_last [] is = absurd (true≢false (sym is))
  up_to_last (r ∷ ws) is =
      or_cases (is_one r.0 && option_map_or (λ w. is_within w z) r.1 false) (lies_within is_one z ws) (UpTo z (later (option_map (λ w. w.last) r.1) (last_of ws))) is
      (at_one r.0 r.1 (last_of ws))
      (λ rest. others_before z (option_map (λ w. w.last) r.1) (last_of ws) (up_to_last ws rest))
