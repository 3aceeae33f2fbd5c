-- Over any times a pinned query sees at each time what the query sees there over its own.
use Rattle.std.proofs.Common.{◌≡◌, ℕ, refl, sym, ◌∙◌, ap, Bool, true, false, cond, Option, Some, None, List, [], ◌∷◌, ◌++◌, map}
use Rattle.std.specs.Prelude.{ℤ, option_map, unwrap_or}
use Rattle.promql_kind.specs.Functions.{Signature}
use Rattle.promql_kind.specs.Modifiers.{including}
use Rattle.promql_ast.specs.Selectors.{Selector, selector}
use Rattle.promql_ast.specs.Shifts.{Shift, Moment}
use Rattle.promql_ast.specs.declared.range_mode.RangeMode.{RangeMode}
use Rattle.promql_ast.specs.Tree.{Tree, aggregate, unary, binary, paren, subquery, number, string, vector, matrix, call, extension, MaybeTree, absent, present, Trees, no_trees, first_tree}
use Rattle.promql_rewrite.specs.Enforcing.{is_info}
use Rattle.promql_when.specs.Pinned.{all_pinned, maybe_pinned, over, pinned, pinned_at}
use Rattle.promql_when.specs.Reads.{target_info}
use Rattle.promql_when.specs.Windows.{base, instant, millis, multiples_in, step_of, subquery_window}
use Rattle.promql_when.specs.declared.times.Times.{Times}
use Rattle.promql_when.specs.declared.times.Window.{Window}
use Rattle.promql_when.proofs.PinnedReads as whens
use Rattle.promql_meaning.specs.Seen.{Beside, all_seen, beside, info_beside, is_absent, joined, matchers_in, maybe_seen, nothing, seen, series}
use Rattle.promql_meaning.specs.SeenAt.{SeenAt, SeenAts, aggregated, all_at_time, at_time, beside_at, called, extended, first_seen, in_window, instants, listed, negated, none_seen, operated, ranges, seen_at, stepped}
use Rattle.promql_meaning.specs.Stores.{Store, read}
use Rattle.promql_meaning.proofs.SeenClauses.{matchers_in_first}

module _ (start end : ℤ) where
  -- a pinned argument has the matchers of the argument
  same_matchers : (t : Tree) → matchers_in (pinned start end t) ≡ matchers_in t
  same_matchers (aggregate op e p m) = refl
  same_matchers (unary e) = refl
  same_matchers (binary op l r m) = refl
  same_matchers (paren e) = same_matchers e
  same_matchers (subquery e offset at range step) = refl
  same_matchers (number n) = refl
  same_matchers (string b) = refl
  same_matchers (vector (selector name cs offset at)) = refl
  same_matchers (matrix (selector name cs offset at) range mode) = refl
  same_matchers (call f args) = refl
  same_matchers (extension name gives es) = refl

  same_first : (args : Trees) → matchers_in_first (all_pinned start end args) ≡ matchers_in_first args
  same_first no_trees = refl
  same_first (first_tree e es) = same_matchers e

  same_info : (store : Store) (args : Trees) → info_beside store (all_pinned start end args) ≡ info_beside store args
  same_info store no_trees = refl
  same_info store (first_tree e no_trees) = refl
  same_info store (first_tree e (first_tree labels es)) = same_matchers labels

  same_beside : (store : Store) (f : Signature) (args : Trees) → beside store f (all_pinned start end args) ≡ beside store f args
  same_beside store f args = λ i. cond (is_absent f) (same_first args i) (cond (is_info f) (same_info store args i) nothing)

-- at each time of a list
pub listed_alike : (f g : ℤ → SeenAt) → ((x : ℤ) → f x ≡ g x) → (xs : List ℤ) → listed (map f xs) ≡ listed (map g xs)
listed_alike f g same [] = refl
listed_alike f g same (x ∷ xs) = let more = listed_alike f g same xs in λ i. first_seen (same x i) (more i)

module _ (ts : Times) (start end : ℤ) (step : ℕ) (store : Store) where
  abbrev other : Times
  other = over start end step ts

  abbrev pin_at : Option Moment → Option Moment
  pin_at = option_map (pinned_at ts.start ts.end)

  abbrev old : Tree → ℤ → SeenAt
  old = seen_at ts store

  abbrev new : Tree → ℤ → SeenAt
  new t = seen_at other store (pinned ts.start ts.end t)

  stepped_alike : (e : Tree) (offset : Option Shift) (at : Option Moment) (range : ℕ) (each : Option ℕ) (x : ℤ) → ((y : ℤ) → new e y ≡ old e y)
      → new (subquery e offset at range each) x ≡ old (subquery e offset at range each) x
  stepped_alike e offset at range each x same =
      (λ i. let times = multiples_in (step_of ts each) (whens.same_window ts start end step offset at (millis range) 0 (instant x) i) in
      stepped (whens.same_base ts start end step offset at x i) range times (listed (map (new e) times)))
      ∙ ap (stepped (base ts offset at x) range (multiples_in (step_of ts each) (subquery_window ts offset at range (instant x))))
      (listed_alike (new e) (old e) same (multiples_in (step_of ts each) (subquery_window ts offset at range (instant x))))

  mutual
    pub pinned_sees : (t : Tree) (x : ℤ) → new t x ≡ old t x
    pinned_sees (aggregate op e p m) x = λ i. aggregated op (pinned_sees e x i) (maybe_sees p x i) (unwrap_or m (including []))
    pinned_sees (unary e) x = ap negated (pinned_sees e x)
    pinned_sees (binary op l r m) x = λ i. operated op (pinned_sees l x i) (pinned_sees r x i) (joined m)
    pinned_sees (paren e) x = pinned_sees e x
    pinned_sees (subquery e offset at range each) x = stepped_alike e offset at range each x (pinned_sees e)
    pinned_sees (number n) x = refl
    pinned_sees (string b) x = refl
    pinned_sees (vector (selector name cs offset at)) x =
        ap (λ w. instants (in_window w (read (selector name cs offset at) store))) (whens.same_window ts start end step offset at ts.lookback 0 (instant x))
    pinned_sees (matrix (selector name cs offset at) range mode) x =
        λ i. ranges (whens.same_base ts start end step offset at x i) range mode
        (in_window (whens.same_range ts start end step offset at (millis range) mode (instant x) i) (read (selector name cs offset at) store))
    pinned_sees (call f args) x = λ i. called f (beside_at ts x (same_beside ts.start ts.end store f args i)) (all_sees args x i)
    pinned_sees (extension name gives es) x = ap (extended name gives) (all_sees es x)

    maybe_sees : (p : MaybeTree) (x : ℤ) → all_at_time other (maybe_seen store (maybe_pinned ts.start ts.end p)) x ≡ all_at_time ts (maybe_seen store p) x
    maybe_sees absent x = refl
    maybe_sees (present e) x = λ i. first_seen (pinned_sees e x i) none_seen

    all_sees : (es : Trees) (x : ℤ) → all_at_time other (all_seen store (all_pinned ts.start ts.end es)) x ≡ all_at_time ts (all_seen store es) x
    all_sees no_trees x = refl
    all_sees (first_tree e es) x = λ i. first_seen (pinned_sees e x i) (all_sees es x i)

-- over some times the pinned query, and over others for the times after those
pub parts_see : (ts : Times) (a b c d : ℤ) (m n : ℕ) (store : Store) (t : Tree) (xs ys : List ℤ)
    → map (seen_at ts store t) (xs ++ ys)
    ≡ map (seen_at (over a b m ts) store (pinned ts.start ts.end t)) xs ++ map (seen_at (over c d n ts) store (pinned ts.start ts.end t)) ys
parts_see ts a b c d m n store t [] [] = refl
parts_see ts a b c d m n store t [] (y ∷ ys) =
    let more = parts_see ts a b c d m n store t [] ys in λ i. sym (pinned_sees ts c d n store t y) i ∷ more i
parts_see ts a b c d m n store t (x ∷ xs) ys =
    let more = parts_see ts a b c d m n store t xs ys in λ i. sym (pinned_sees ts a b m store t x) i ∷ more i
