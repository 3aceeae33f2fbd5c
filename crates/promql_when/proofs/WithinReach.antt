-- What is read lies within reach.
use Rattle.std.proofs.Common.{◌≡◌, refl, sym, ◌∙◌, ap, subst, ℕ, zero, suc, Bool, true, false, true≢false, cond, arith, ◌&&◌, ◌||◌, ◌+◌, ◌*◌, ◌/◌, ◌<◌, Option, Some, None, List, [], ◌∷◌, ◌++◌}
use Rattle.std.proofs.lemmas.Bool.{and_parts}
use Rattle.std.specs.Prelude.{ℤ, int_le}
use Rattle.std.specs.Int.{int_gap}
use Rattle.std.specs.Int.Signed.{◌≤ℤ◌}
use Rattle.std.specs.List.{flat_map}
use Rattle.std.proofs.Math.IntN.{pos, ◌+ℤ◌, ◌-ℤ◌}
use Rattle.promql_ast.specs.Selectors.{Selector, selector}
use Rattle.promql_ast.specs.Shifts.{Shift, back, ahead, Moment, at_start, at_end, at_time}
use Rattle.promql_ast.specs.Tree.{Tree, aggregate, unary, binary, paren, subquery, number, string, vector, matrix, call, extension, MaybeTree, absent, present, Trees, no_trees, first_tree}
use Rattle.promql_when.specs.Reached.{all_reach, evaluation, info_reach, is_reached, is_within_reach, maybe_reach, reach, reach_around}
use Rattle.promql_when.specs.Reads.{all_reads, is_bare_info, is_read, maybe_reads, reads, target_info}
use Rattle.promql_when.specs.Windows.{after_range, around, before_range, ceil_to, from, instant, is_within, millis, multiples_in, opening, shifted, step_of, subquery_window, vector_window}
use Rattle.promql_when.specs.declared.reach.Reach.{Reach}
use Rattle.promql_when.specs.declared.times.Times.{Times}
use Rattle.promql_when.specs.declared.times.Window.{Window}
use Rattle.promql_when.proofs.Multiples.{below_last, ceil_above}
use Rattle.promql_when.proofs.Orders.{around_keeps, both_true, le_of, of_le, or_cases, within_part}
use Rattle.promql_when.proofs.WithinWindows.{any_joined, or_true}

abbrev Reads : Type 0
Reads = List (Selector × Window)

abbrev Reaches : Type 0
Reaches = List (Selector × Reach)

next_one : (x last : ℤ) (step k : ℕ) → (x +ℤ pos (suc k * step)) ≤ℤ last → ((x +ℤ pos step) +ℤ pos (k * step)) ≤ℤ last
next_one x last step k is = grind arith

first_one : (x last : ℤ) (step : ℕ) → (x +ℤ pos (0 * step)) ≤ℤ last → x ≤ℤ last
first_one x last step is = grind arith

later : (x y : ℤ) (n : ℕ) → x ≤ℤ y → x ≤ℤ (y +ℤ pos n)
later x y n is = grind arith

-- ---- windows that move

shifted_moves : (offset : Option Shift) (x y : ℤ) → shifted offset (y -ℤ x) ≡ shifted offset y -ℤ x
shifted_moves None x y = refl
shifted_moves (Some (back n)) x y = moves x y (millis n)
  where
    moves : (x y : ℤ) (k : ℕ) → (y -ℤ x) -ℤ pos k ≡ (y -ℤ pos k) -ℤ x
    moves x y k = grind arith
shifted_moves (Some (ahead n)) x y = moves x y (millis n)
  where
    moves : (x y : ℤ) (k : ℕ) → (y -ℤ x) +ℤ pos k ≡ (y +ℤ pos k) -ℤ x
    moves x y k = grind arith

less_keeps : (a b x : ℤ) → a ≤ℤ b → (a -ℤ x) ≤ℤ (b -ℤ x)
less_keeps a b x is = grind arith

first_moves : (b x : ℤ) (before opened : ℕ) → ((b -ℤ pos before) +ℤ pos opened) -ℤ x ≡ ((b -ℤ x) -ℤ pos before) +ℤ pos opened
first_moves b x before opened = two (b -ℤ pos before) x opened ∙ ap (λ y. y +ℤ pos opened) (one b x before)
  where
    one : (b x : ℤ) (n : ℕ) → (b -ℤ pos n) -ℤ x ≡ (b -ℤ x) -ℤ pos n
    one b x n = grind arith

    two : (b x : ℤ) (n : ℕ) → (b +ℤ pos n) -ℤ x ≡ (b -ℤ x) +ℤ pos n
    two b x n = grind arith

last_moves : (b x : ℤ) (after : ℕ) → (b +ℤ pos after) -ℤ x ≡ (b -ℤ x) +ℤ pos after
last_moves b x after = grind arith

moved_first : (b c x z : ℤ) (before opened : ℕ) → c ≡ b -ℤ x → ((b -ℤ pos before) +ℤ pos opened) ≤ℤ z → ((c -ℤ pos before) +ℤ pos opened) ≤ℤ (z -ℤ x)
moved_first b c x z before opened same is =
    subst (λ c. ((c -ℤ pos before) +ℤ pos opened) ≤ℤ (z -ℤ x)) (sym same)
    (subst (λ a. a ≤ℤ (z -ℤ x)) (first_moves b x before opened) (less_keeps ((b -ℤ pos before) +ℤ pos opened) z x is))

moved_last : (b c x z : ℤ) (after : ℕ) → c ≡ b -ℤ x → z ≤ℤ (b +ℤ pos after) → (z -ℤ x) ≤ℤ (c +ℤ pos after)
moved_last b c x z after same is =
    subst (λ c. (z -ℤ x) ≤ℤ (c +ℤ pos after)) (sym same) (subst (λ a. (z -ℤ x) ≤ℤ a) (last_moves b x after) (less_keeps z (b +ℤ pos after) x is))

module _ (ts : Times) (x : ℤ) where
  -- what is looked at from within reach is within the reach of that
  low_of : (w : Window) (y : ℤ) → is_within w y ≡ true → w.first ≤ℤ y
  low_of w y is = le_of w.first y (and_parts (int_le w.first y) (int_le y w.last) is).0

  high_of : (w : Window) (y : ℤ) → is_within w y ≡ true → y ≤ℤ w.last
  high_of w y is = le_of y w.last (and_parts (int_le w.first y) (int_le y w.last) is).1

  module _ (offset : Option Shift) (before after : ℕ) where
    stays : (w : Window) (y z : ℤ) → is_within w y ≡ true → is_within (around ts offset None before after (instant y)) z ≡ true
        → is_within (around ts offset None before after w) z ≡ true
    stays w y z is read =
        within_part (around ts offset None before after (instant y)) (around ts offset None before after w) z
        (around_keeps ts offset None before after (instant y) w (low_of w y is, high_of w y is)) read

    moves : (y z : ℤ) → is_within (around ts offset None before after (instant y)) z ≡ true
        → is_within (around ts offset None before after (instant (y -ℤ x))) (z -ℤ x) ≡ true
    moves y z read =
        let v = around ts offset None before after (instant y) in
        let u = around ts offset None before after (instant (y -ℤ x)) in
        both_true (int_le u.first (z -ℤ x)) (int_le (z -ℤ x) u.last)
        (of_le u.first (z -ℤ x) (moved_first (shifted offset y) (shifted offset (y -ℤ x)) x z before (opening ts) (shifted_moves offset x y) (low_of v z read)))
        (of_le (z -ℤ x) u.last (moved_last (shifted offset y) (shifted offset (y -ℤ x)) x z after (shifted_moves offset x y) (high_of v z read)))

    with_none : (fixed : Bool) (w : Window) (y z : ℤ) → is_within_reach x y (record { is_fixed = fixed; window = w }) ≡ true
        → is_within (around ts offset None before after (instant y)) z ≡ true
        → is_within_reach x z (reach_around ts offset None before after (record { is_fixed = fixed; window = w })) ≡ true
    with_none true w y z is read = stays w y z is read
    with_none false w y z is read = stays w (y -ℤ x) (z -ℤ x) is (moves y z read)

    pub around_reach : (at : Option Moment) (r : Reach) (y z : ℤ) → is_within_reach x y r ≡ true
        → is_within (around ts offset at before after (instant y)) z ≡ true → is_within_reach x z (reach_around ts offset at before after r) ≡ true
    around_reach None r y z is read = with_none r.is_fixed r.window y z is read
    around_reach (Some at_start) r y z is read = read
    around_reach (Some at_end) r y z is read = read
    around_reach (Some (at_time t)) r y z is read = read

  -- at each of the times of a subquery
  module _ (is_one : Selector → Bool) (z : ℤ) (P : Type 0) (r : ℤ → Reads) (lo hi : ℤ) (inside : (y : ℤ) → lo ≤ℤ y → y ≤ℤ hi → is_read is_one z (r y) ≡ true → P) where
    at_times : (n step : ℕ) (y : ℤ) → lo ≤ℤ y → ((k : ℕ) → k < n → (y +ℤ pos (k * step)) ≤ℤ hi) → is_read is_one z (flat_map r (from y step n)) ≡ true → P
    at_times zero step y low high is = absurd (true≢false (sym is))
    at_times (suc n) step y low high is =
        or_cases (is_read is_one z (r y)) (is_read is_one z (flat_map r (from (y +ℤ pos step) step n))) P
        (sym (any_joined (λ r. is_one r.0 && is_within r.1 z) (r y) (flat_map r (from (y +ℤ pos step) step n))) ∙ is)
        (inside y low (first_one y hi step (high 0 (omega arith))))
        (at_times n step (y +ℤ pos step) (later lo y step low) (λ k few. next_one y hi step k (high (suc k) (omega arith))))

  at_multiples : (is_one : Selector → Bool) (z : ℤ) (P : Type 0) (r : ℤ → Reads) (step : ℕ) (v : Window)
      → ((y : ℤ) → is_within v y ≡ true → is_read is_one z (r y) ≡ true → P) → is_read is_one z (flat_map r (multiples_in step v)) ≡ true → P
  at_multiples is_one z P r zero v inside is = absurd (true≢false (sym is))
  at_multiples is_one z P r (suc step) v inside is = go (int_le (ceil_to (suc step) v.first) v.last) refl is
    where
      go : (b : Bool) → int_le (ceil_to (suc step) v.first) v.last ≡ b → is_read is_one z (flat_map r (cond b (from (ceil_to (suc step) v.first) (suc step) (suc (int_gap (ceil_to (suc step) v.first) v.last / suc step))) [])) ≡ true → P
      go false test is = absurd (true≢false (sym is))
      go true test is =
          at_times is_one z P r v.first v.last
          (λ y low high. inside y (both_true (int_le v.first y) (int_le y v.last) (of_le v.first y low) (of_le y v.last high)))
          (suc (int_gap (ceil_to (suc step) v.first) v.last / suc step)) (suc step) (ceil_to (suc step) v.first) (ceil_above step v.first)
          (λ k few. below_last (ceil_to (suc step) v.first) v.last step k (le_of (ceil_to (suc step) v.first) v.last test) few) is

  module _ (is_one : Selector → Bool) (z : ℤ) where
    abbrev Within : Reaches → Reads → Type 0
    Within qs rs = is_read is_one z rs ≡ true → is_reached is_one x z qs ≡ true

    nothing_read : (qs : Reaches) → Within qs []
    nothing_read qs is = absurd (true≢false (sym is))

    joined : (ps qs : Reaches) (vs ws : Reads) → Within ps vs → Within qs ws → Within (ps ++ qs) (vs ++ ws)
    joined ps qs vs ws one other is =
        any_joined (λ r. is_one r.0 && is_within_reach x z r.1) ps qs
        ∙ or_cases (is_read is_one z vs) (is_read is_one z ws) (is_reached is_one x z ps || is_reached is_one x z qs ≡ true)
        (sym (any_joined (λ r. is_one r.0 && is_within r.1 z) vs ws) ∙ is)
        (λ h. ap (λ t. t || is_reached is_one x z qs) (one h))
        (λ h. ap (λ t. is_reached is_one x z ps || t) (other h) ∙ or_true (is_reached is_one x z ps))

    at_selector : (s : Selector) (offset : Option Shift) (at : Option Moment) (before after : ℕ) (r : Reach) (y : ℤ) → is_within_reach x y r ≡ true
        → Within ((s, reach_around ts offset at before after r) ∷ []) ((s, around ts offset at before after (instant y)) ∷ [])
    at_selector s offset at before after r y there is =
        let v = around ts offset at before after (instant y) in
        let q = reach_around ts offset at before after r in
        or_cases (is_one s && is_within v z) false ((is_one s && is_within_reach x z q) || false ≡ true) is
        (λ h. ap (λ t. t || false)
        (both_true (is_one s) (is_within_reach x z q) (and_parts (is_one s) (is_within v z) h).0
        (around_reach offset before after at r y z there (and_parts (is_one s) (is_within v z) h).1)))
        (λ h. absurd (true≢false (sym h)))

    at_info : (b : Bool) (r : Reach) (y : ℤ) → is_within_reach x y r ≡ true
        → Within (cond b (info_reach ts r) []) (cond b ((target_info, vector_window ts None None (instant y)) ∷ []) [])
    at_info true r y there = at_selector target_info None None ts.lookback 0 r y there
    at_info false r y there = nothing_read []

    mutual
      pub reached : (t : Tree) (r : Reach) (y : ℤ) → is_within_reach x y r ≡ true → Within (reach ts t r) (reads ts t y)
      reached (aggregate op e p m) r y there = joined (maybe_reach ts p r) (reach ts e r) (maybe_reads ts p y) (reads ts e y) (maybe_reached p r y there) (reached e r y there)
      reached (unary e) r y there = reached e r y there
      reached (binary op l o m) r y there = joined (reach ts l r) (reach ts o r) (reads ts l y) (reads ts o y) (reached l r y there) (reached o r y there)
      reached (paren e) r y there = reached e r y there
      reached (subquery e offset at range step) r y there =
          at_multiples is_one z (is_reached is_one x z (reach ts e (reach_around ts offset at (millis range) 0 r)) ≡ true) (reads ts e) (step_of ts step)
          (subquery_window ts offset at range (instant y))
          (λ u is. reached e (reach_around ts offset at (millis range) 0 r) u (around_reach offset (millis range) 0 at r y u there is))
      reached (number n) r y there = nothing_read []
      reached (string b) r y there = nothing_read []
      reached (vector (selector name cs offset at)) r y there = at_selector (selector name cs offset at) offset at ts.lookback 0 r y there
      reached (matrix (selector name cs offset at) range mode) r y there =
          at_selector (selector name cs offset at) offset at (millis range + before_range ts mode) (after_range ts mode) r y there
      reached (call f args) r y there =
          let bare = is_bare_info f args in
          joined (all_reach ts args r) (cond bare (info_reach ts r) []) (all_reads ts args y) (cond bare ((target_info, vector_window ts None None (instant y)) ∷ []) [])
          (all_reached args r y there) (at_info bare r y there)
      reached (extension name gives es) r y there = all_reached es r y there

      maybe_reached : (p : MaybeTree) (r : Reach) (y : ℤ) → is_within_reach x y r ≡ true → Within (maybe_reach ts p r) (maybe_reads ts p y)
      maybe_reached absent r y there = nothing_read []
      maybe_reached (present e) r y there = reached e r y there

      all_reached : (es : Trees) (r : Reach) (y : ℤ) → is_within_reach x y r ≡ true → Within (all_reach ts es r) (all_reads ts es y)
      all_reached no_trees r y there = nothing_read []
      all_reached (first_tree e es) r y there = joined (reach ts e r) (all_reach ts es r) (reads ts e y) (all_reads ts es y) (reached e r y there) (all_reached es r y there)

no_time_later : (x : ℤ) → x -ℤ x ≡ pos 0
no_time_later x = grind arith

at_zero : (z : ℤ) → z ≡ pos 0 → int_le (pos 0) z && int_le z (pos 0) ≡ true
at_zero z is = ap (λ z. int_le (pos 0) z && int_le z (pos 0)) is

pub within_reach : (ts : Times) (t : Tree) (x sample : ℤ) (is_one : Selector → Bool) → is_read is_one sample (reads ts t x) ≡ true
    → is_reached is_one x sample (reach ts t evaluation) ≡ true
within_reach ts t x sample is_one = reached ts x is_one sample t evaluation x (at_zero (x -ℤ x) (no_time_later x))
