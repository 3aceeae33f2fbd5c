-- The ends of windows are ends of what is read.
use Rattle.std.proofs.Common.{◌≡◌, refl, sym, ◌∙◌, ap, ℕ, zero, suc, Bool, true, false, true≢false, cond, arith, ◌||◌, ◌+◌, ◌*◌, ◌/◌, Option, Some, None, List, [], ◌∷◌, ◌++◌}
use Rattle.std.proofs.lemmas.Bool.{and_parts}
use Rattle.std.specs.Prelude.{ℤ, int_le}
use Rattle.std.specs.Int.{int_gap}
use Rattle.std.specs.Int.Signed.{◌≤ℤ◌}
use Rattle.std.specs.List.{flat_map}
use Rattle.std.specs.Option.{option_map_or}
use Rattle.std.proofs.Math.IntN.{pos, ◌+ℤ◌}
use Rattle.promql_ast.specs.Selectors.{Selector, selector}
use Rattle.promql_ast.specs.Shifts.{Shift, Moment}
use Rattle.promql_ast.specs.Tree.{Tree, aggregate, unary, binary, paren, subquery, number, string, vector, matrix, call, extension, MaybeTree, absent, present, Trees, no_trees, first_tree}
use Rattle.promql_when.specs.Ends.{all_evaluated, each_evaluated, first_of, has_read_to, has_window_to, last_of, maybe_evaluated}
use Rattle.promql_when.specs.Reads.{all_reads, all_windows, info_windows, is_bare_info, maybe_reads, maybe_windows, reads, target_info, windows}
use Rattle.promql_when.specs.Windows.{after_range, around, before_range, ceil_to, floor_to, from, instant, millis, multiples_in, narrowed, step_of, subquery_window, vector_window}
use Rattle.promql_when.specs.declared.times.Times.{Times}
use Rattle.promql_when.specs.declared.times.Window.{Window}
use Rattle.promql_when.proofs.Multiples.{ceil_keeps, floor_keeps, floor_under, last_multiple}
use Rattle.promql_when.proofs.Orders.{IsPart, around_keeps, le_of, le_trans, of_le, or_cases}
use Rattle.promql_when.proofs.WithinWindows.{any_joined, or_true}

abbrev Reads : Type 0
Reads = List (Selector × Window)

abbrev Windows : Type 0
Windows = List (Selector × Option Window)

-- where both ends of a window have times of a subquery
module _ (end : Window → ℤ) (is_asked : Selector → ℤ → Bool) where
  -- an end of a window is one of what is read
  abbrev pub Reaches : Windows → Reads → Type 0
  Reaches ws rs = has_window_to end is_asked ws ≡ true → has_read_to end is_asked rs ≡ true

  joined : (vs ws : Windows) (qs rs : Reads) → Reaches vs qs → Reaches ws rs → Reaches (vs ++ ws) (qs ++ rs)
  joined vs ws qs rs one other is =
      any_joined (λ r. is_asked r.0 (end r.1)) qs rs
      ∙ or_cases (has_window_to end is_asked vs) (has_window_to end is_asked ws) (has_read_to end is_asked qs || has_read_to end is_asked rs ≡ true)
      (sym (any_joined (λ r. option_map_or (λ w. is_asked r.0 (end w)) r.1 false) vs ws) ∙ is)
      (λ h. ap (λ t. t || has_read_to end is_asked rs) (one h))
      (λ h. ap (λ t. has_read_to end is_asked qs || t) (other h) ∙ or_true (has_read_to end is_asked qs))

  nothing_asked : (rs : Reads) → Reaches [] rs
  nothing_asked rs is = absurd (true≢false (sym is))

  -- the read of one time among those of times that follow one another
  pub among_times : (r : ℤ → Reads) (step k : ℕ) (x y : ℤ) → y ≡ x +ℤ pos (k * step) → has_read_to end is_asked (r y) ≡ true
      → has_read_to end is_asked (flat_map r (from x step (suc k))) ≡ true
  among_times r step zero x y same is =
      any_joined (λ r. is_asked r.0 (end r.1)) (r x) []
      ∙ ap (λ t. t || false) (ap (λ x. has_read_to end is_asked (r x)) (sym (same ∙ none_later x step)) ∙ is)
    where
      none_later : (x : ℤ) (step : ℕ) → x +ℤ pos (0 * step) ≡ x
      none_later x step = grind arith
  among_times r step (suc k) x y same is =
      any_joined (λ r. is_asked r.0 (end r.1)) (r x) (flat_map r (from (x +ℤ pos step) step (suc k)))
      ∙ ap (λ t. has_read_to end is_asked (r x) || t) (among_times r step k (x +ℤ pos step) y (same ∙ one_later x step k) is)
      ∙ or_true (has_read_to end is_asked (r x))
    where
      one_later : (x : ℤ) (step k : ℕ) → x +ℤ pos (suc k * step) ≡ (x +ℤ pos step) +ℤ pos (k * step)
      one_later x step k = grind arith

  -- at the times of a subquery: where it has some at the end of a window, this end is that of the times in a wider window
  abbrev pub AtSteps : Type 0
  AtSteps = (step : ℕ) (v w : Window) → IsPart v w → end v ≡ end w → (is : ℤ → Bool) (f : Option Window → Windows) (r : ℤ → Reads)
      → ((u : Window) → u.first ≤ℤ u.last → is (end u) ≡ true → Reaches (f (Some u)) (r (end u)))
      → option_map_or (λ u. is (end u)) (narrowed step v) false ≡ true → Reaches (f (narrowed step w)) (flat_map r (multiples_in step v))

  abbrev pub SameEnds : Times → Type 0
  SameEnds ts = (offset : Option Shift) (at : Option Moment) (before after : ℕ) (w : Window)
      → end (around ts offset at before after (instant (end w))) ≡ end (around ts offset at before after w)

  abbrev pub Within : Type 0
  Within = (w : Window) → w.first ≤ℤ w.last → IsPart (instant (end w)) w

  module _ (ts : Times) (same_ends : SameEnds ts) (within : Within) (at_steps : AtSteps) where
    at_selector : (s : Selector) (offset : Option Shift) (at : Option Moment) (before after : ℕ) (w : Window)
        → Reaches ((s, Some (around ts offset at before after w)) ∷ []) ((s, around ts offset at before after (instant (end w))) ∷ [])
    at_selector s offset at before after w is = ap (λ z. is_asked s z || false) (same_ends offset at before after w) ∙ is

    at_info : (b : Bool) (w : Window)
        → Reaches (cond b (info_windows ts (Some w)) []) (cond b ((target_info, vector_window ts None None (instant (end w))) ∷ []) [])
    at_info true w = at_selector target_info None None ts.lookback 0 w
    at_info false w = nothing_asked []

    mutual
      pub reached : (t : Tree) (w : Window) → w.first ≤ℤ w.last → all_evaluated end ts t (end w) ≡ true → Reaches (windows ts t (Some w)) (reads ts t (end w))
      reached (aggregate op e p m) w some is =
          joined (maybe_windows ts p (Some w)) (windows ts e (Some w)) (maybe_reads ts p (end w)) (reads ts e (end w))
          (maybe_reached p w some (and_parts (maybe_evaluated end ts p (end w)) (all_evaluated end ts e (end w)) is).0)
          (reached e w some (and_parts (maybe_evaluated end ts p (end w)) (all_evaluated end ts e (end w)) is).1)
      reached (unary e) w some is = reached e w some is
      reached (binary op l r m) w some is =
          joined (windows ts l (Some w)) (windows ts r (Some w)) (reads ts l (end w)) (reads ts r (end w))
          (reached l w some (and_parts (all_evaluated end ts l (end w)) (all_evaluated end ts r (end w)) is).0)
          (reached r w some (and_parts (all_evaluated end ts l (end w)) (all_evaluated end ts r (end w)) is).1)
      reached (paren e) w some is = reached e w some is
      reached (subquery e offset at range step) w some is =
          at_steps (step_of ts step) (subquery_window ts offset at range (instant (end w))) (subquery_window ts offset at range w)
          (around_keeps ts offset at (millis range) 0 (instant (end w)) w (within w some)) (same_ends offset at (millis range) 0 w)
          (all_evaluated end ts e) (windows ts e) (reads ts e) (reached e) is
      reached (vector (selector name cs offset at)) w some is = at_selector (selector name cs offset at) offset at ts.lookback 0 w
      reached (matrix (selector name cs offset at) range mode) w some is =
          at_selector (selector name cs offset at) offset at (millis range + before_range ts mode) (after_range ts mode) w
      reached (call f args) w some is =
          let bare = is_bare_info f args in
          joined (all_windows ts args (Some w)) (cond bare (info_windows ts (Some w)) []) (all_reads ts args (end w))
          (cond bare ((target_info, vector_window ts None None (instant (end w))) ∷ []) []) (each_reached args w some is) (at_info bare w)
      reached (extension name gives es) w some is = each_reached es w some is
      reached (number n) w some is = nothing_asked []
      reached (string b) w some is = nothing_asked []

      maybe_reached : (p : MaybeTree) (w : Window) → w.first ≤ℤ w.last → maybe_evaluated end ts p (end w) ≡ true
          → Reaches (maybe_windows ts p (Some w)) (maybe_reads ts p (end w))
      maybe_reached absent w some is = nothing_asked []
      maybe_reached (present e) w some is = reached e w some is

      each_reached : (es : Trees) (w : Window) → w.first ≤ℤ w.last → each_evaluated end ts es (end w) ≡ true
          → Reaches (all_windows ts es (Some w)) (all_reads ts es (end w))
      each_reached no_trees w some is = nothing_asked []
      each_reached (first_tree e es) w some is =
          joined (windows ts e (Some w)) (all_windows ts es (Some w)) (reads ts e (end w)) (all_reads ts es (end w))
          (reached e w some (and_parts (all_evaluated end ts e (end w)) (each_evaluated end ts es (end w)) is).0)
          (each_reached es w some (and_parts (all_evaluated end ts e (end w)) (each_evaluated end ts es (end w)) is).1)

-- ---- the first end

same_time : (x : ℤ) → x ≤ℤ x
same_time x = grind arith

module _ (is_asked : Selector → ℤ → Bool) where
  -- the times that v has, w has, too
  module _ (step : ℕ) (v w : Window) (part : IsPart v w) (is : ℤ → Bool) (f : Option Window → Windows) (r : ℤ → Reads) where
    abbrev first_multiple : Window → ℤ
    first_multiple u = ceil_to (suc step) u.first

    abbrev last_below : Window → ℤ
    last_below u = floor_to (suc step) u.last

    abbrev narrow : Window → Window
    narrow u = record { first = first_multiple u; last = last_below u }

    wider : first_multiple v ≤ℤ last_below v → int_le (first_multiple w) (last_below w) ≡ true
    wider some =
        of_le (first_multiple w) (last_below w)
        (le_trans (first_multiple w) (first_multiple v) (last_below w) (ceil_keeps step w.first v.first part.0)
        (le_trans (first_multiple v) (last_below v) (last_below w) some (floor_keeps step v.last w.last part.1)))

    below_end : first_multiple v ≤ℤ last_below v → first_multiple v ≤ℤ v.last
    below_end some = le_trans (first_multiple v) (last_below v) v.last some (floor_under step v.last)

    first_within : v.first ≡ w.first → (inside : (u : Window) → u.first ≤ℤ u.last → is u.first ≡ true → Reaches first_of is_asked (f (Some u)) (r u.first))
        → (b : Bool) → int_le (first_multiple v) (last_below v) ≡ b → option_map_or (λ u. is u.first) (cond b (Some (narrow v)) None) false ≡ true
        → Reaches first_of is_asked (f (narrowed (suc step) w)) (flat_map r (multiples_in (suc step) v))
    first_within same inside false test some asked = absurd (true≢false (sym some))
    first_within same inside true test some asked =
        let few = le_of (first_multiple v) (last_below v) test in
        let low = ap (λ x. ceil_to (suc step) x) same in
        let found = ap (λ b. f (cond b (Some (narrow w)) None)) (wider few) in
        let there = inside (narrow w) (le_of (first_multiple w) (last_below w) (wider few)) (ap is (sym low) ∙ some) (ap (has_window_to first_of is_asked) (sym found) ∙ asked) in
        ap (λ b. has_read_to first_of is_asked (flat_map r (cond b (from (first_multiple v) (suc step) (suc (int_gap (first_multiple v) v.last / suc step))) [])))
        (of_le (first_multiple v) v.last (below_end few))
        ∙ any_joined (λ r. is_asked r.0 r.1.first) (r (first_multiple v))
        (flat_map r (from (first_multiple v +ℤ pos (suc step)) (suc step) (int_gap (first_multiple v) v.last / suc step)))
        ∙ ap (λ t. t || has_read_to first_of is_asked (flat_map r (from (first_multiple v +ℤ pos (suc step)) (suc step) (int_gap (first_multiple v) v.last / suc step))))
        (ap (λ x. has_read_to first_of is_asked (r x)) low ∙ there)

    last_within : v.last ≡ w.last → (inside : (u : Window) → u.first ≤ℤ u.last → is u.last ≡ true → Reaches last_of is_asked (f (Some u)) (r u.last))
        → (b : Bool) → int_le (first_multiple v) (last_below v) ≡ b → option_map_or (λ u. is u.last) (cond b (Some (narrow v)) None) false ≡ true
        → Reaches last_of is_asked (f (narrowed (suc step) w)) (flat_map r (multiples_in (suc step) v))
    last_within same inside false test some asked = absurd (true≢false (sym some))
    last_within same inside true test some asked =
        let few = le_of (first_multiple v) (last_below v) test in
        let high = ap (λ x. floor_to (suc step) x) same in
        let found = ap (λ b. f (cond b (Some (narrow w)) None)) (wider few) in
        let there = inside (narrow w) (le_of (first_multiple w) (last_below w) (wider few)) (ap is (sym high) ∙ some) (ap (has_window_to last_of is_asked) (sym found) ∙ asked) in
        ap (λ b. has_read_to last_of is_asked (flat_map r (cond b (from (first_multiple v) (suc step) (suc (int_gap (first_multiple v) v.last / suc step))) [])))
        (of_le (first_multiple v) v.last (below_end few))
        ∙ among_times last_of is_asked r (suc step) (int_gap (first_multiple v) v.last / suc step) (first_multiple v) (last_below w)
        (sym high ∙ last_multiple step v.first v.last (below_end few)) there

  first_steps : AtSteps first_of is_asked
  first_steps zero v w part same is f r inside some = absurd (true≢false (sym some))
  first_steps (suc step) v w part same is f r inside some =
      first_within step v w part is f r same inside (int_le (ceil_to (suc step) v.first) (floor_to (suc step) v.last)) refl some

  last_steps : AtSteps last_of is_asked
  last_steps zero v w part same is f r inside some = absurd (true≢false (sym some))
  last_steps (suc step) v w part same is f r inside some =
      last_within step v w part is f r same inside (int_le (ceil_to (suc step) v.first) (floor_to (suc step) v.last)) refl some

  pub first_reached : (ts : Times) (t : Tree) (w : Window) → w.first ≤ℤ w.last → all_evaluated first_of ts t w.first ≡ true
      → Reaches first_of is_asked (windows ts t (Some w)) (reads ts t w.first)
  first_reached ts = reached first_of is_asked ts (λ offset at before after w. refl) (λ w some. (same_time w.first, some)) first_steps

  pub last_reached : (ts : Times) (t : Tree) (w : Window) → w.first ≤ℤ w.last → all_evaluated last_of ts t w.last ≡ true
      → Reaches last_of is_asked (windows ts t (Some w)) (reads ts t w.last)
  last_reached ts = reached last_of is_asked ts (λ offset at before after w. refl) (λ w some. (some, same_time w.last)) last_steps
