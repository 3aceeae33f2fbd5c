-- A constant query sees the same at every time.
use Rattle.std.proofs.Common.{◌≡◌, ℕ, ◌+◌, refl, sym, ◌∙◌, ap, Bool, true, false, true≢false, cond, ◌||◌, Option, Some, None, List, [], ◌∷◌, codes, map}
use Rattle.std.proofs.lemmas.Bool.{and_parts}
use Rattle.std.specs.Prelude.{ℤ, bytes_eq, nat_le, not, unwrap_or}
use Rattle.promql_kind.specs.Functions.{Signature, name_of}
use Rattle.promql_kind.specs.Modifiers.{including}
use Rattle.promql_ast.specs.Selectors.{Selector, selector}
use Rattle.promql_ast.specs.Shifts.{Shift, Moment}
use Rattle.promql_ast.specs.Tree.{Tree, aggregate, unary, binary, paren, subquery, number, string, vector, matrix, call, extension, MaybeTree, absent, present, Trees, no_trees, first_tree}
use Rattle.promql_rewrite.specs.Enforcing.{is_info}
use Rattle.promql_when.specs.Last.{all_constant, depends_on_time, is_constant, maybe_constant}
use Rattle.promql_when.specs.Windows.{after_range, base, before_range, instant, millis, multiples_in, shifted, step_of}
use Rattle.promql_when.specs.declared.times.Times.{Times}
use Rattle.promql_when.proofs.ConstantReads as whens
use Rattle.promql_meaning.specs.Seen.{Beside, all_seen, beside, info_beside, is_absent, joined, matchers_in, maybe_seen, nothing, seen}
use Rattle.promql_meaning.specs.SeenAt.{SeenAt, SeenAts, aggregated, all_at_time, at_time, beside_at, called, extended, first_seen, in_window, instants, listed, negated, none_seen, operated, ranges, seen_at, stepped}
use Rattle.promql_meaning.specs.Stores.{Store, read}
use Rattle.promql_meaning.proofs.SeenClauses.{matchers_in_first}

module _ (ts : Times) (store : Store) (x y : ℤ) where
  same_base : (offset : Option Shift) (m : Moment) → base ts offset (Some m) x ≡ base ts offset (Some m) y
  same_base offset m = ap (shifted offset) (whens.same_moment ts x y m)

  -- matchers are no samples
  same_matchers : (t : Tree) → beside_at ts x (matchers_in t) ≡ beside_at ts y (matchers_in t)
  same_matchers (aggregate op e p m) = refl
  same_matchers (unary e) = refl
  same_matchers (binary op l r m) = refl
  same_matchers (paren e) = same_matchers e
  same_matchers (subquery e offset at range step) = refl
  same_matchers (number n) = refl
  same_matchers (string b) = refl
  same_matchers (vector (selector name cs offset at)) = refl
  same_matchers (matrix (selector name cs offset at) range mode) = refl
  same_matchers (call f args) = refl
  same_matchers (extension name gives es) = refl

  same_first : (args : Trees) → beside_at ts x (matchers_in_first args) ≡ beside_at ts y (matchers_in_first args)
  same_first no_trees = refl
  same_first (first_tree e es) = same_matchers e

  without_info : (absents : Bool) (args : Trees) → beside_at ts x (cond absents (matchers_in_first args) nothing) ≡ beside_at ts y (cond absents (matchers_in_first args) nothing)
  without_info true args = same_first args
  without_info false args = refl

  same_beside : (f : Signature) (args : Trees) → is_info f ≡ false → beside_at ts x (beside store f args) ≡ beside_at ts y (beside store f args)
  same_beside f args other =
      ap (λ b. beside_at ts x (cond (is_absent f) (matchers_in_first args) (cond b (info_beside store args) nothing))) other
      ∙ without_info (is_absent f) args
      ∙ ap (λ b. beside_at ts y (cond (is_absent f) (matchers_in_first args) (cond b (info_beside store args) nothing))) (sym other)

  no_info : (f : Signature) → not (depends_on_time f) ≡ true → is_info f ≡ false
  no_info f is = whens.second_false (bytes_eq (name_of f) (codes "time")) (bytes_eq (name_of f) (codes "info")) _ is

  mutual
    pub same_seen : (t : Tree) → is_constant t ≡ true → seen_at ts store t x ≡ seen_at ts store t y
    same_seen (aggregate op e p m) is =
        λ i. aggregated op (same_seen e (and_parts (maybe_constant p) (is_constant e) is).1 i) (maybe_same p (and_parts (maybe_constant p) (is_constant e) is).0 i)
        (unwrap_or m (including []))
    same_seen (unary e) is = ap negated (same_seen e is)
    same_seen (binary op l r m) is =
        λ i. operated op (same_seen l (and_parts (is_constant l) (is_constant r) is).0 i) (same_seen r (and_parts (is_constant l) (is_constant r) is).1 i) (joined m)
    same_seen (paren e) is = same_seen e is
    same_seen (subquery e offset None range step) is = absurd (true≢false (sym is))
    same_seen (subquery e offset (Some m) range step) is =
        λ i. let times = multiples_in (step_of ts step) (whens.same_window ts x y offset m (millis range) 0 i) in
        stepped (same_base offset m i) range times (listed (map (at_time ts (seen store e)) times))
    same_seen (number n) is = refl
    same_seen (string b) is = refl
    same_seen (vector (selector name cs offset None)) is = absurd (true≢false (sym is))
    same_seen (vector (selector name cs offset (Some m))) is =
        ap (λ w. instants (in_window w (read (selector name cs offset (Some m)) store))) (whens.same_window ts x y offset m ts.lookback 0)
    same_seen (matrix (selector name cs offset None) range mode) is = absurd (true≢false (sym is))
    same_seen (matrix (selector name cs offset (Some m)) range mode) is =
        λ i. ranges (same_base offset m i) range mode
        (in_window (whens.same_window ts x y offset m (millis range + before_range ts mode) (after_range ts mode) i) (read (selector name cs offset (Some m)) store))
    same_seen (call f args) is =
        λ i. called f (same_beside f args (no_info f (and_parts (not (depends_on_time f)) (all_constant args) is).0) i)
        (all_same args (and_parts (not (depends_on_time f)) (all_constant args) is).1 i)
    same_seen (extension name gives es) is = absurd (true≢false (sym is))

    maybe_same : (p : MaybeTree) → maybe_constant p ≡ true → all_at_time ts (maybe_seen store p) x ≡ all_at_time ts (maybe_seen store p) y
    maybe_same absent is = refl
    maybe_same (present e) is = λ i. first_seen (same_seen e is i) none_seen

    all_same : (es : Trees) → all_constant es ≡ true → all_at_time ts (all_seen store es) x ≡ all_at_time ts (all_seen store es) y
    all_same no_trees is = refl
    all_same (first_tree e es) is =
        λ i. first_seen (same_seen e (and_parts (is_constant e) (all_constant es) is).0 i) (all_same es (and_parts (is_constant e) (all_constant es) is).1 i)
