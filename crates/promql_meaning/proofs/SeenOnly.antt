-- At a time a query sees the same of a store that has only samples of which all that it reads is one.
use Rattle.std.proofs.Common.{◌≡◌, ℕ, refl, sym, ◌∙◌, ap, Bool, true, false, cond, ◌&&◌, ◌||◌, List, [], ◌∷◌, ◌++◌, map}
use Rattle.std.proofs.lemmas.Bool.{or_left, or_right}
use Rattle.std.specs.Prelude.{ℤ, None, filter, nat_le, unwrap_or}
use Rattle.std.specs.List.{flat_map}
use Rattle.promql_kind.specs.Functions.{Signature}
use Rattle.promql_kind.specs.Modifiers.{including}
use Rattle.promql_ast.specs.Arguments.{count}
use Rattle.promql_ast.specs.Selectors.{Selector, selector}
use Rattle.promql_ast.specs.declared.range_mode.RangeMode.{RangeMode}
use Rattle.promql_ast.specs.Tree.{Tree, aggregate, unary, binary, paren, subquery, number, string, vector, matrix, call, extension, MaybeTree, absent, present, Trees, no_trees, first_tree}
use Rattle.promql_rewrite.specs.Enforcing.{is_info}
use Rattle.promql_rewrite.specs.Selecting.{Series, selects}
use Rattle.promql_when.specs.Reads.{all_reads, is_bare_info, is_read, maybe_reads, reads, target_info}
use Rattle.promql_when.specs.Windows.{base, instant, is_within, matrix_window, multiples_in, step_of, subquery_window, vector_window}
use Rattle.promql_when.specs.declared.times.Times.{Times}
use Rattle.promql_when.specs.declared.times.Window.{Window}
use Rattle.promql_when.proofs.WithinWindows.{any_joined}
use Rattle.promql_meaning.specs.Seen.{Beside, Seen, all_seen, beside, info_beside, is_absent, joined, maybe_seen, nothing, seen, series}
use Rattle.promql_meaning.specs.SeenAt.{SeenAt, SeenAts, aggregated, all_at_time, at_time, beside_at, called, extended, first_seen, in_window, instants, listed, negated, none_seen, operated, ranges, stepped}
use Rattle.promql_meaning.specs.Stores.{Sample, Stored, Store, only, read, with_series}
use Rattle.promql_meaning.proofs.Among.{found_among}
use Rattle.promql_meaning.proofs.SeenClauses.{matchers_in_first}

abbrev Reads : Type 0
Reads = List (Selector × Window)

module _ (known : Series → ℤ → Bool) where
  -- all of these samples are known
  abbrev pub Known : Reads → Type 0
  Known rs = (labels : Series) (y : ℤ) → is_read (λ s. selects s labels) y rs ≡ true → known labels y ≡ true

  known_first : (a b : Reads) → Known (a ++ b) → Known a
  known_first a b all labels y is =
      all labels y (any_joined (λ r. selects r.0 labels && is_within r.1 y) a b
      ∙ or_left (is_read (λ s. selects s labels) y a) (is_read (λ s. selects s labels) y b) is)

  known_second : (a b : Reads) → Known (a ++ b) → Known b
  known_second a b all labels y is =
      all labels y (any_joined (λ r. selects r.0 labels && is_within r.1 y) a b
      ∙ or_right (is_read (λ s. selects s labels) y a) (is_read (λ s. selects s labels) y b) is)

  -- the window of a selector has the same samples
  module _ (s : Selector) (w : Window) (all : Known ((s, w) ∷ [])) where
    known_sample : (labels : Series) (y : ℤ) → selects s labels ≡ true → is_within w y ≡ true → known labels y ≡ true
    known_sample labels y selected within = all labels y (ap (λ b. b && is_within w y || false) selected ∙ ap (λ b. b || false) within)

    abbrev within : List Sample → List Sample
    within = filter (λ y. is_within w y.time)

    same_in : (xs : Store) → in_window w (read s (only known xs)) ≡ in_window w (read s xs)
    same_in [] = refl
    same_in (x ∷ xs) = go (selects s x.labels) refl (filter (λ y. known x.labels y.time) x.samples) refl (same_in xs)
      where
        again : selects s x.labels ≡ true → within x.samples ≡ within (filter (λ y. known x.labels y.time) x.samples)
        again is = found_among (λ y. is_within w y.time) (λ y. known x.labels y.time) x.samples (λ y inside. known_sample x.labels y.time is inside)

        go : (b : Bool) → selects s x.labels ≡ b → (ys : List Sample) → filter (λ y. known x.labels y.time) x.samples ≡ ys
            → in_window w (read s (only known xs)) ≡ in_window w (read s xs)
            → in_window w (read s (with_series x.labels ys (only known xs))) ≡ in_window w (cond (selects s x.labels) (x ∷ read s xs) (read s xs))
        go true is [] kept same =
            same
            ∙ ap (λ ys. with_series x.labels ys (in_window w (read s xs))) (sym (again is ∙ ap within kept))
            ∙ ap (λ b. in_window w (cond b (x ∷ read s xs) (read s xs))) (sym is)
        go true is (y ∷ ys) kept same =
            ap (λ b. in_window w (cond b (record { labels = x.labels; samples = y ∷ ys } ∷ read s (only known xs)) (read s (only known xs)))) is
            ∙ ap (with_series x.labels (within (y ∷ ys))) same
            ∙ ap (λ ys. with_series x.labels ys (in_window w (read s xs))) (sym (again is ∙ ap within kept))
            ∙ ap (λ b. in_window w (cond b (x ∷ read s xs) (read s xs))) (sym is)
        go false is [] kept same = same ∙ ap (λ b. in_window w (cond b (x ∷ read s xs) (read s xs))) (sym is)
        go false is (y ∷ ys) kept same =
            ap (λ b. in_window w (cond b (record { labels = x.labels; samples = y ∷ ys } ∷ read s (only known xs)) (read s (only known xs)))) is
            ∙ same
            ∙ ap (λ b. in_window w (cond b (x ∷ read s xs) (read s xs))) (sym is)

  module _ (ts : Times) (store : Store) where
    -- what a call of `info` reads
    abbrev info_reads : Bool → ℤ → Reads
    info_reads bare x = cond bare ((target_info, vector_window ts None None (instant x)) ∷ []) []

    info_only : (is : Bool) (args : Trees) (x : ℤ) → Known (info_reads (is && nat_le (count args) 1) x)
        → beside_at ts x (cond is (info_beside (only known store) args) nothing) ≡ beside_at ts x (cond is (info_beside store args) nothing)
    info_only false args x all = refl
    info_only true no_trees x all = ap series (same_in target_info (vector_window ts None None (instant x)) all store)
    info_only true (first_tree e no_trees) x all = ap series (same_in target_info (vector_window ts None None (instant x)) all store)
    info_only true (first_tree e (first_tree labels es)) x all = refl

    other_beside : (absents : Bool) (first one other : Beside) (x : ℤ) → beside_at ts x one ≡ beside_at ts x other
        → beside_at ts x (cond absents first one) ≡ beside_at ts x (cond absents first other)
    other_beside true first one other x same = refl
    other_beside false first one other x same = same

    beside_only : (f : Signature) (args : Trees) (x : ℤ) → Known (info_reads (is_bare_info f args) x)
        → beside_at ts x (beside (only known store) f args) ≡ beside_at ts x (beside store f args)
    beside_only f args x all =
        other_beside (is_absent f) (matchers_in_first args) (cond (is_info f) (info_beside (only known store) args) nothing)
        (cond (is_info f) (info_beside store args) nothing) x (info_only (is_info f) args x all)

    -- at each time of a subquery
    each_only : (f g : ℤ → SeenAt) (rs : ℤ → Reads) → ((x : ℤ) → Known (rs x) → f x ≡ g x) → (xs : List ℤ) → Known (flat_map rs xs)
        → listed (map f xs) ≡ listed (map g xs)
    each_only f g rs same [] all = refl
    each_only f g rs same (x ∷ xs) all =
        let one = same x (known_first (rs x) (flat_map rs xs) all) in
        let more = each_only f g rs same xs (known_second (rs x) (flat_map rs xs) all) in
        λ i. first_seen (one i) (more i)

    abbrev old : Tree → ℤ → SeenAt
    old t = at_time ts (seen store t)

    abbrev new : Tree → ℤ → SeenAt
    new t = at_time ts (seen (only known store) t)

    mutual
      pub seen_only : (t : Tree) (x : ℤ) → Known (reads ts t x) → new t x ≡ old t x
      seen_only (aggregate op e p m) x all =
          λ i. aggregated op (seen_only e x (known_second (maybe_reads ts p x) (reads ts e x) all) i)
          (maybe_only p x (known_first (maybe_reads ts p x) (reads ts e x) all) i) (unwrap_or m (including []))
      seen_only (unary e) x all = ap negated (seen_only e x all)
      seen_only (binary op l r m) x all =
          λ i. operated op (seen_only l x (known_first (reads ts l x) (reads ts r x) all) i)
          (seen_only r x (known_second (reads ts l x) (reads ts r x) all) i) (joined m)
      seen_only (paren e) x all = seen_only e x all
      seen_only (subquery e offset at range step) x all =
          let times = multiples_in (step_of ts step) (subquery_window ts offset at range (instant x)) in
          ap (stepped (base ts offset at x) range times) (each_only (new e) (old e) (reads ts e) (seen_only e) times all)
      seen_only (number n) x all = refl
      seen_only (string b) x all = refl
      seen_only (vector (selector name cs offset at)) x all =
          ap instants (same_in (selector name cs offset at) (vector_window ts offset at (instant x)) all store)
      seen_only (matrix (selector name cs offset at) range mode) x all =
          ap (ranges (base ts offset at x) range mode) (same_in (selector name cs offset at) (matrix_window ts offset at range mode (instant x)) all store)
      seen_only (call f args) x all =
          λ i. called f (beside_only f args x (known_second (all_reads ts args x) (info_reads (is_bare_info f args) x) all) i)
          (all_only args x (known_first (all_reads ts args x) (info_reads (is_bare_info f args) x) all) i)
      seen_only (extension name gives es) x all = ap (extended name gives) (all_only es x all)

      maybe_only : (p : MaybeTree) (x : ℤ) → Known (maybe_reads ts p x)
          → all_at_time ts (maybe_seen (only known store) p) x ≡ all_at_time ts (maybe_seen store p) x
      maybe_only absent x all = refl
      maybe_only (present e) x all = λ i. first_seen (seen_only e x all i) none_seen

      all_only : (es : Trees) (x : ℤ) → Known (all_reads ts es x)
          → all_at_time ts (all_seen (only known store) es) x ≡ all_at_time ts (all_seen store es) x
      all_only no_trees x all = refl
      all_only (first_tree e es) x all =
          λ i. first_seen (seen_only e x (known_first (reads ts e x) (all_reads ts es x) all) i)
          (all_only es x (known_second (reads ts e x) (all_reads ts es x) all) i)
