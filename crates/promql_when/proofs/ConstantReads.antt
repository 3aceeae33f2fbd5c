-- A constant query reads the same at every time.
use Rattle.std.proofs.Common.{◌≡◌, refl, sym, ◌∙◌, ap, ℕ, ◌+◌, Bool, true, false, true≢false, cond, ◌&&◌, ◌||◌, Option, Some, None, List, [], ◌∷◌, ◌++◌, codes}
use Rattle.std.proofs.lemmas.Bool.{and_parts}
use Rattle.std.specs.Prelude.{ℤ, bytes_eq, nat_le, not}
use Rattle.std.specs.List.{flat_map}
use Rattle.std.proofs.Math.IntN.{pos, ◌+ℤ◌, ◌-ℤ◌}
use Rattle.promql_kind.specs.Functions.{Signature, name_of}
use Rattle.promql_ast.specs.Arguments.{count}
use Rattle.promql_ast.specs.Selectors.{Selector, selector}
use Rattle.promql_ast.specs.Shifts.{Shift, Moment, at_start, at_end, at_time}
use Rattle.promql_ast.specs.Tree.{Tree, aggregate, unary, binary, paren, subquery, number, string, vector, matrix, call, extension, MaybeTree, absent, present, Trees, no_trees, first_tree}
use Rattle.promql_when.specs.Last.{all_constant, depends_on_time, is_constant, maybe_constant}
use Rattle.promql_when.specs.Reads.{all_reads, is_bare_info, maybe_reads, reads, target_info}
use Rattle.promql_when.specs.Windows.{after_range, around, before_range, instant, millis, moment, multiples_in, opening, shifted, step_of, vector_window}
use Rattle.promql_when.specs.declared.times.Times.{Times}
use Rattle.promql_when.specs.declared.times.Window.{Window}

abbrev Reads : Type 0
Reads = List (Selector × Window)

-- a call that does not depend on the time is none of `info`
pub second_false : (a b c : Bool) → not (a || (b || c)) ≡ true → b ≡ false
second_false false false c is = refl
second_false false true c is = absurd (true≢false (sym is))
second_false true b c is = absurd (true≢false (sym is))

not_bare : (f : Signature) (args : Trees) → not (depends_on_time f) ≡ true → is_bare_info f args ≡ false
not_bare f args is = ap (λ b. b && nat_le (count args) 1) (second_false (bytes_eq (name_of f) (codes "time")) (bytes_eq (name_of f) (codes "info")) _ is)

no_info : (b : Bool) (rs : Reads) → b ≡ false → cond b rs [] ≡ []
no_info b rs is = ap (λ b. cond b rs []) is

module _ (ts : Times) (x y : ℤ) where
  pub same_moment : (m : Moment) → moment ts (Some m) x ≡ moment ts (Some m) y
  same_moment at_start = refl
  same_moment at_end = refl
  same_moment (at_time t) = refl

  pub same_window : (offset : Option Shift) (m : Moment) (before after : ℕ)
      → around ts offset (Some m) before after (instant x) ≡ around ts offset (Some m) before after (instant y)
  same_window offset m before after =
      let same = ap (shifted offset) (same_moment m) in
      λ i. record { first = (same i -ℤ pos before) +ℤ pos (opening ts); last = same i +ℤ pos after }

  both : (ps bs vs ws : Reads) → ps ≡ bs → vs ≡ ws → ps ++ vs ≡ bs ++ ws
  both ps bs vs ws one other = ap (λ ps. ps ++ vs) one ∙ ap (λ vs. bs ++ vs) other

  mutual
    pub same_reads : (t : Tree) → is_constant t ≡ true → reads ts t x ≡ reads ts t y
    same_reads (aggregate op e p m) is =
        both (maybe_reads ts p x) (maybe_reads ts p y) (reads ts e x) (reads ts e y)
        (maybe_same p (and_parts (maybe_constant p) (is_constant e) is).0) (same_reads e (and_parts (maybe_constant p) (is_constant e) is).1)
    same_reads (unary e) is = same_reads e is
    same_reads (binary op l r m) is =
        both (reads ts l x) (reads ts l y) (reads ts r x) (reads ts r y)
        (same_reads l (and_parts (is_constant l) (is_constant r) is).0) (same_reads r (and_parts (is_constant l) (is_constant r) is).1)
    same_reads (paren e) is = same_reads e is
    same_reads (subquery e offset None range step) is = absurd (true≢false (sym is))
    same_reads (subquery e offset (Some m) range step) is =
        ap (λ w. flat_map (reads ts e) (multiples_in (step_of ts step) w)) (same_window offset m (millis range) 0)
    same_reads (number n) is = refl
    same_reads (string b) is = refl
    same_reads (vector (selector name cs offset None)) is = absurd (true≢false (sym is))
    same_reads (vector (selector name cs offset (Some m))) is = ap (λ w. (selector name cs offset (Some m), w) ∷ []) (same_window offset m ts.lookback 0)
    same_reads (matrix (selector name cs offset None) range mode) is = absurd (true≢false (sym is))
    same_reads (matrix (selector name cs offset (Some m)) range mode) is =
        ap (λ w. (selector name cs offset (Some m), w) ∷ []) (same_window offset m (millis range + before_range ts mode) (after_range ts mode))
    same_reads (call f args) is =
        let bare = not_bare f args (and_parts (not (depends_on_time f)) (all_constant args) is).0 in
        both (all_reads ts args x) (all_reads ts args y) _ _
        (all_same args (and_parts (not (depends_on_time f)) (all_constant args) is).1)
        (no_info (is_bare_info f args) ((target_info, vector_window ts None None (instant x)) ∷ []) bare
        ∙ sym (no_info (is_bare_info f args) ((target_info, vector_window ts None None (instant y)) ∷ []) bare))
    same_reads (extension name gives es) is = absurd (true≢false (sym is))

    maybe_same : (p : MaybeTree) → maybe_constant p ≡ true → maybe_reads ts p x ≡ maybe_reads ts p y
    maybe_same absent is = refl
    maybe_same (present e) is = same_reads e is

    all_same : (es : Trees) → all_constant es ≡ true → all_reads ts es x ≡ all_reads ts es y
    all_same no_trees is = refl
    all_same (first_tree e es) is =
        both (reads ts e x) (reads ts e y) (all_reads ts es x) (all_reads ts es y)
        (same_reads e (and_parts (is_constant e) (all_constant es) is).0) (all_same es (and_parts (is_constant e) (all_constant es) is).1)
