-- A pinned query reads over any times what the query reads over its own.
use Rattle.std.proofs.Common.{◌≡◌, refl, sym, ◌∙◌, ap, ℕ, ◌+◌, Bool, true, false, cond, ◌&&◌, Option, Some, None, List, [], ◌∷◌, ◌++◌, codes, map}
use Rattle.std.specs.Prelude.{ℤ, bytes_eq, nat_le, option_map}
use Rattle.std.specs.List.{flat_map}
use Rattle.std.proofs.Math.IntN.{pos, ◌+ℤ◌, ◌-ℤ◌}
use Rattle.std.proofs.lemmas.List.{map-append}
use Rattle.promql_kind.specs.Functions.{name_of}
use Rattle.promql_ast.specs.Arguments.{count}
use Rattle.promql_ast.specs.Selectors.{Selector, selector}
use Rattle.promql_ast.specs.Shifts.{Shift, Moment, at_start, at_end, at_time}
use Rattle.promql_ast.specs.Tree.{Tree, aggregate, unary, binary, paren, subquery, number, string, vector, matrix, call, extension, MaybeTree, absent, present, Trees, no_trees, first_tree}
use Rattle.promql_ast.specs.declared.range_mode.RangeMode.{RangeMode}
use Rattle.promql_ast.specs.declared.range_mode.RangeMode.TheVariants.{Plain, Smoothed, Anchored}
use Rattle.promql_when.specs.Pinned.{all_pinned, maybe_pinned, over, pinned, pinned_at, pinned_selector}
use Rattle.promql_when.specs.Reads.{all_reads, is_bare_info, maybe_reads, reads, target_info}
use Rattle.promql_when.specs.Windows.{after_range, around, base, before_range, instant, millis, moment, multiples_in, opening, shifted, step_of, subquery_window, vector_window}
use Rattle.promql_when.specs.declared.times.Times.{Times}
use Rattle.promql_when.specs.declared.times.Window.{Window}

abbrev Reads : Type 0
Reads = List (Selector × Window)

-- ps many arguments
pub counts : (start end : ℤ) (es : Trees) → count (all_pinned start end es) ≡ count es
counts start end no_trees = refl
counts start end (first_tree e es) = ap (λ n. n + 1) (counts start end es)

module _ (ts : Times) (start end : ℤ) (step : ℕ) where
  abbrev other : Times
  other = over start end step ts

  abbrev pin_at : Option Moment → Option Moment
  pin_at = option_map (pinned_at ts.start ts.end)

  abbrev all_pin : Reads → Reads
  all_pin = map (λ r. (pinned_selector ts.start ts.end r.0, r.1))

  pub same_moment : (at : Option Moment) (x : ℤ) → moment other (pin_at at) x ≡ moment ts at x
  same_moment None x = refl
  same_moment (Some at_start) x = refl
  same_moment (Some at_end) x = refl
  same_moment (Some (at_time t)) x = refl

  pub same_base : (offset : Option Shift) (at : Option Moment) (x : ℤ) → base other offset (pin_at at) x ≡ base ts offset at x
  same_base offset at x = ap (shifted offset) (same_moment at x)

  pub same_window : (offset : Option Shift) (at : Option Moment) (before after : ℕ) (w : Window)
      → around other offset (pin_at at) before after w ≡ around ts offset at before after w
  same_window offset at before after w =
      let low = same_base offset at w.first in
      let high = same_base offset at w.last in
      λ i. record { first = (low i -ℤ pos before) +ℤ pos (opening ts); last = high i +ℤ pos after }

  pub same_range : (offset : Option Shift) (at : Option Moment) (range : ℕ) (mode : RangeMode) (w : Window)
      → around other offset (pin_at at) (range + before_range other mode) (after_range other mode) w
      ≡ around ts offset at (range + before_range ts mode) (after_range ts mode) w
  same_range offset at range Plain w = same_window offset at (range + 0) 0 w
  same_range offset at range Anchored w = same_window offset at (range + ts.lookback) 0 w
  same_range offset at range Smoothed w = same_window offset at (range + ts.lookback) ts.lookback w

  joined : (ps bs vs ws : Reads) → ps ≡ all_pin vs → bs ≡ all_pin ws → ps ++ bs ≡ all_pin (vs ++ ws)
  joined ps bs vs ws one more =
      ap (λ ps. ps ++ bs) one ∙ ap (λ bs. all_pin vs ++ bs) more ∙ sym (map-append (λ r. (pinned_selector ts.start ts.end r.0, r.1)) vs ws)

  at_each : (f g : ℤ → Reads) → ((x : ℤ) → f x ≡ all_pin (g x)) → (xs : List ℤ) → flat_map f xs ≡ all_pin (flat_map g xs)
  at_each f g same [] = refl
  at_each f g same (x ∷ xs) = joined (f x) (flat_map f xs) (g x) (flat_map g xs) (same x) (at_each f g same xs)

  bare : (b : Bool) (x : ℤ) → cond b ((target_info, vector_window other None None (instant x)) ∷ []) []
      ≡ all_pin (cond b ((target_info, vector_window ts None None (instant x)) ∷ []) [])
  bare true x = refl
  bare false x = refl

  mutual
    pub pinned_reads : (t : Tree) (x : ℤ) → reads other (pinned ts.start ts.end t) x ≡ all_pin (reads ts t x)
    pinned_reads (aggregate op e p m) x =
        joined (maybe_reads other (maybe_pinned ts.start ts.end p) x) (reads other (pinned ts.start ts.end e) x) (maybe_reads ts p x) (reads ts e x)
        (maybe_pinned_reads p x) (pinned_reads e x)
    pinned_reads (unary e) x = pinned_reads e x
    pinned_reads (binary op l r m) x =
        joined (reads other (pinned ts.start ts.end l) x) (reads other (pinned ts.start ts.end r) x) (reads ts l x) (reads ts r x) (pinned_reads l x) (pinned_reads r x)
    pinned_reads (paren e) x = pinned_reads e x
    pinned_reads (subquery e offset at range each) x =
        ap (λ w. flat_map (reads other (pinned ts.start ts.end e)) (multiples_in (step_of ts each) w)) (same_window offset at (millis range) 0 (instant x))
        ∙ at_each (reads other (pinned ts.start ts.end e)) (reads ts e) (pinned_reads e) (multiples_in (step_of ts each) (subquery_window ts offset at range (instant x)))
    pinned_reads (number n) x = refl
    pinned_reads (string b) x = refl
    pinned_reads (vector (selector name cs offset at)) x =
        ap (λ w. (selector name cs offset (pin_at at), w) ∷ []) (same_window offset at ts.lookback 0 (instant x))
    pinned_reads (matrix (selector name cs offset at) range mode) x =
        ap (λ w. (selector name cs offset (pin_at at), w) ∷ []) (same_range offset at (millis range) mode (instant x))
    pinned_reads (call f args) x =
        ap (λ n. all_reads other (all_pinned ts.start ts.end args) x
        ++ cond (bytes_eq (name_of f) (codes "info") && nat_le n 1) ((target_info, vector_window other None None (instant x)) ∷ []) []) (counts ts.start ts.end args)
        ∙ joined (all_reads other (all_pinned ts.start ts.end args) x)
        (cond (is_bare_info f args) ((target_info, vector_window other None None (instant x)) ∷ []) []) (all_reads ts args x)
        (cond (is_bare_info f args) ((target_info, vector_window ts None None (instant x)) ∷ []) []) (all_pinned_reads args x) (bare (is_bare_info f args) x)
    pinned_reads (extension name gives es) x = all_pinned_reads es x

    maybe_pinned_reads : (p : MaybeTree) (x : ℤ) → maybe_reads other (maybe_pinned ts.start ts.end p) x ≡ all_pin (maybe_reads ts p x)
    maybe_pinned_reads absent x = refl
    maybe_pinned_reads (present e) x = pinned_reads e x

    all_pinned_reads : (es : Trees) (x : ℤ) → all_reads other (all_pinned ts.start ts.end es) x ≡ all_pin (all_reads ts es x)
    all_pinned_reads no_trees x = refl
    all_pinned_reads (first_tree e es) x =
        joined (reads other (pinned ts.start ts.end e) x) (all_reads other (all_pinned ts.start ts.end es) x) (reads ts e x) (all_reads ts es x)
        (pinned_reads e x) (all_pinned_reads es x)
