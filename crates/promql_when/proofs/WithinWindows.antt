-- What is read at a time of a window lies within the windows of that.
use Rattle.std.proofs.Common.{◌≡◌, refl, sym, ◌∙◌, ap, ℕ, zero, suc, Bool, true, false, true≢false, cond, arith, ◌&&◌, ◌||◌, ◌+◌, ◌*◌, ◌/◌, ◌<◌, Option, Some, None, List, [], ◌∷◌, ◌++◌}
use Rattle.std.proofs.lemmas.Bool.{and_parts}
use Rattle.std.specs.Prelude.{ℤ, int_le}
use Rattle.std.specs.Int.{int_gap}
use Rattle.std.specs.Int.Signed.{◌≤ℤ◌}
use Rattle.std.specs.List.{flat_map, list_any}
use Rattle.std.specs.Option.{option_map_or}
use Rattle.std.proofs.Math.IntN.{pos, ◌+ℤ◌}
use Rattle.promql_ast.specs.Selectors.{Selector, selector}
use Rattle.promql_ast.specs.Tree.{Tree, aggregate, unary, binary, paren, subquery, number, string, vector, matrix, call, extension, MaybeTree, absent, present, Trees, no_trees, first_tree}
use Rattle.promql_when.specs.Reads.{all_reads, all_windows, info_windows, is_bare_info, is_read, lies_within, maybe_reads, maybe_windows, reads, target_info, windows}
use Rattle.promql_when.specs.Windows.{after_range, before_range, ceil_to, floor_to, from, instant, is_within, matrix_window, millis, multiples_in, narrowed, step_of, subquery_window, vector_window}
use Rattle.promql_when.specs.declared.times.Times.{Times}
use Rattle.promql_when.specs.declared.times.Window.{Window}
use Rattle.promql_when.proofs.Multiples.{IsMultiple, below_floor, below_last, ceil_is_multiple, ceil_keeps, next_is_multiple}
use Rattle.promql_when.proofs.Orders.{IsPart, around_keeps, both_true, le_of, le_trans, of_le, or_cases, within_part}

abbrev Reads : Type 0
Reads = List (Selector × Window)

abbrev Windows : Type 0
Windows = List (Selector × Option Window)

or_or : (a b c : Bool) → a || (b || c) ≡ (a || b) || c
or_or true b c = refl
or_or false b c = refl

pub or_true : (a : Bool) → a || true ≡ true
or_true true = refl
or_true false = refl

pub any_joined : {A : Type 0} (f : A → Bool) (xs ys : List A) → list_any f (xs ++ ys) ≡ list_any f xs || list_any f ys
any_joined f [] ys = refl
any_joined f (x ∷ xs) ys = ap (λ t. f x || t) (any_joined f xs ys) ∙ or_or (f x) (list_any f xs) (list_any f ys)

next_one : (x last : ℤ) (step k : ℕ) → (x +ℤ pos (suc k * step)) ≤ℤ last → ((x +ℤ pos step) +ℤ pos (k * step)) ≤ℤ last
next_one x last step k is = grind arith

first_one : (x last : ℤ) (step : ℕ) → (x +ℤ pos (0 * step)) ≤ℤ last → x ≤ℤ last
first_one x last step is = grind arith

later : (x y : ℤ) (n : ℕ) → x ≤ℤ y → x ≤ℤ (y +ℤ pos n)
later x y n is = grind arith

module _ (is_one : Selector → Bool) (z : ℤ) where
  -- what the reads have, the windows have
  abbrev Covers : Windows → Reads → Type 0
  Covers ws rs = is_read is_one z rs ≡ true → lies_within is_one z ws ≡ true

  nothing_read : (ws : Windows) → Covers ws []
  nothing_read ws is = absurd (true≢false (sym is))

  joined : (vs ws : Windows) (qs rs : Reads) → Covers vs qs → Covers ws rs → Covers (vs ++ ws) (qs ++ rs)
  joined vs ws qs rs one other is =
      any_joined (λ r. is_one r.0 && option_map_or (λ w. is_within w z) r.1 false) vs ws
      ∙ or_cases (is_read is_one z qs) (is_read is_one z rs) (lies_within is_one z vs || lies_within is_one z ws ≡ true)
      (sym (any_joined (λ r. is_one r.0 && is_within r.1 z) qs rs) ∙ is)
      (λ h. ap (λ t. t || lies_within is_one z ws) (one h))
      (λ h. ap (λ t. lies_within is_one z vs || t) (other h) ∙ or_true (lies_within is_one z vs))

  -- of a selector
  at_selector : (s : Selector) (v w : Window) → IsPart v w → Covers ((s, Some w) ∷ []) ((s, v) ∷ [])
  at_selector s v w part is =
      or_cases (is_one s && is_within v z) false ((is_one s && is_within w z) || false ≡ true) is
      (λ h. ap (λ t. t || false)
      (both_true (is_one s) (is_within w z) (and_parts (is_one s) (is_within v z) h).0 (within_part v w z part (and_parts (is_one s) (is_within v z) h).1)))
      (λ h. absurd (true≢false (sym h)))

  -- at times that follow one another by a step
  module _ (r : ℤ → Reads) (ws : Windows) (lo hi last : ℤ) (step : ℕ) (inside : (x : ℤ) → lo ≤ℤ x → x ≤ℤ hi → Covers ws (r x))
      (below : (x : ℤ) → IsMultiple (suc step) x → x ≤ℤ last → x ≤ℤ hi) where
    at_times : (n : ℕ) (x : ℤ) → IsMultiple (suc step) x → lo ≤ℤ x → ((k : ℕ) → k < n → (x +ℤ pos (k * suc step)) ≤ℤ last)
        → Covers ws (flat_map r (from x (suc step) n))
    at_times zero x multiple low high is = nothing_read ws is
    at_times (suc n) x multiple low high is =
        or_cases (is_read is_one z (r x)) (is_read is_one z (flat_map r (from (x +ℤ pos (suc step)) (suc step) n))) (lies_within is_one z ws ≡ true)
        (sym (any_joined (λ r. is_one r.0 && is_within r.1 z) (r x) (flat_map r (from (x +ℤ pos (suc step)) (suc step) n))) ∙ is)
        (inside x low (below x multiple (first_one x last (suc step) (high 0 (omega arith)))))
        (at_times n (x +ℤ pos (suc step)) (next_is_multiple (suc step) x multiple) (later lo x (suc step) low)
        (λ k fits. next_one x last (suc step) k (high (suc k) (omega arith))))

  -- the first multiple in a window, and the last
  abbrev begins : ℕ → Window → ℤ
  begins step w = ceil_to (suc step) w.first

  abbrev ends : ℕ → Window → ℤ
  ends step w = floor_to (suc step) w.last

  -- at the times of a subquery in a window, where those of a wider one are covered
  module _ (r : ℤ → Reads) (f : Option Window → Windows) (inside : (u : Window) (x : ℤ) → u.first ≤ℤ x → x ≤ℤ u.last → Covers (f (Some u)) (r x)) where
    at_multiples : (step : ℕ) (v w : Window) → IsPart v w → Covers (f (narrowed step w)) (flat_map r (multiples_in step v))
    at_multiples zero v w part = nothing_read (f None)
    at_multiples (suc step) v w part = go (int_le (begins step v) v.last) refl
      where
        multiple : IsMultiple (suc step) (begins step v)
        multiple = ceil_is_multiple (suc step) v.first

        below : (x : ℤ) → IsMultiple (suc step) x → x ≤ℤ v.last → x ≤ℤ ends step w
        below x is_one_of_them is = below_floor step x w.last is_one_of_them (le_trans x v.last w.last is part.1)

        earlier : begins step w ≤ℤ begins step v
        earlier = ceil_keeps step w.first v.first part.0

        wider : begins step v ≤ℤ v.last → (b : Bool) → int_le (begins step w) (ends step w) ≡ b
            → Covers (f (cond b (Some (record { first = begins step w; last = ends step w })) None))
            (flat_map r (from (begins step v) (suc step) (suc (int_gap (begins step v) v.last / suc step))))
        wider fits true is =
            at_times r (f (Some (record { first = begins step w; last = ends step w }))) (begins step w) (ends step w) v.last step
            (inside (record { first = begins step w; last = ends step w })) below
            (suc (int_gap (begins step v) v.last / suc step)) (begins step v) multiple earlier (λ k few. below_last (begins step v) v.last step k fits few)
        wider fits false is =
            absurd (true≢false (sym (of_le (begins step w) (ends step w) (le_trans (begins step w) (begins step v) (ends step w) earlier (below (begins step v) multiple fits))) ∙ is))

        go : (b : Bool) → int_le (begins step v) v.last ≡ b
            → Covers (f (narrowed (suc step) w)) (flat_map r (cond b (from (begins step v) (suc step) (suc (int_gap (begins step v) v.last / suc step))) []))
        go true is = wider (le_of (begins step v) v.last is) (int_le (begins step w) (ends step w)) refl
        go false is = nothing_read (f (narrowed (suc step) w))

  -- a window of one time, which lies in a window
  one_time : (w : Window) (x : ℤ) → w.first ≤ℤ x → x ≤ℤ w.last → IsPart (instant x) w
  one_time w x low high = (low, high)

  module _ (ts : Times) where
    info_inside : (b : Bool) (w : Window) (x : ℤ) → IsPart (instant x) w
        → Covers (cond b (info_windows ts (Some w)) []) (cond b ((target_info, vector_window ts None None (instant x)) ∷ []) [])
    info_inside true w x part =
        at_selector target_info (vector_window ts None None (instant x)) (vector_window ts None None w) (around_keeps ts None None ts.lookback 0 (instant x) w part)
    info_inside false w x part = nothing_read []

    mutual
      pub inside_windows : (t : Tree) (w : Window) (x : ℤ) → w.first ≤ℤ x → x ≤ℤ w.last → Covers (windows ts t (Some w)) (reads ts t x)
      inside_windows (aggregate op e p m) w x low high =
          joined (maybe_windows ts p (Some w)) (windows ts e (Some w)) (maybe_reads ts p x) (reads ts e x) (maybe_inside p w x low high) (inside_windows e w x low high)
      inside_windows (unary e) w x low high = inside_windows e w x low high
      inside_windows (binary op l r m) w x low high =
          joined (windows ts l (Some w)) (windows ts r (Some w)) (reads ts l x) (reads ts r x) (inside_windows l w x low high) (inside_windows r w x low high)
      inside_windows (paren e) w x low high = inside_windows e w x low high
      inside_windows (subquery e offset at range step) w x low high =
          at_multiples (reads ts e) (windows ts e) (inside_windows e) (step_of ts step) (subquery_window ts offset at range (instant x)) (subquery_window ts offset at range w)
          (around_keeps ts offset at (millis range) 0 (instant x) w (one_time w x low high))
      inside_windows (vector (selector name cs offset at)) w x low high =
          at_selector (selector name cs offset at) (vector_window ts offset at (instant x)) (vector_window ts offset at w) (around_keeps ts offset at ts.lookback 0 (instant x) w (one_time w x low high))
      inside_windows (matrix (selector name cs offset at) range mode) w x low high =
          at_selector (selector name cs offset at) (matrix_window ts offset at range mode (instant x)) (matrix_window ts offset at range mode w)
          (around_keeps ts offset at (millis range + before_range ts mode) (after_range ts mode) (instant x) w (one_time w x low high))
      inside_windows (call f args) w x low high =
          let bare = is_bare_info f args in
          joined (all_windows ts args (Some w)) (cond bare (info_windows ts (Some w)) []) (all_reads ts args x) (cond bare ((target_info, vector_window ts None None (instant x)) ∷ []) [])
          (all_inside args w x low high) (info_inside bare w x (one_time w x low high))
      inside_windows (extension name gives es) w x low high = all_inside es w x low high
      inside_windows (number n) w x low high = nothing_read []
      inside_windows (string b) w x low high = nothing_read []

      maybe_inside : (p : MaybeTree) (w : Window) (x : ℤ) → w.first ≤ℤ x → x ≤ℤ w.last → Covers (maybe_windows ts p (Some w)) (maybe_reads ts p x)
      maybe_inside absent w x low high = nothing_read []
      maybe_inside (present e) w x low high = inside_windows e w x low high

      all_inside : (es : Trees) (w : Window) (x : ℤ) → w.first ≤ℤ x → x ≤ℤ w.last → Covers (all_windows ts es (Some w)) (all_reads ts es x)
      all_inside no_trees w x low high = nothing_read []
      all_inside (first_tree e es) w x low high =
          joined (windows ts e (Some w)) (all_windows ts es (Some w)) (reads ts e x) (all_reads ts es x) (inside_windows e w x low high) (all_inside es w x low high)
