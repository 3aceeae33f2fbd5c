-- Each sample that a query reads at a time is seen then: a store with it alone and an empty one are seen apart.
use Rattle.std.proofs.Common.{◌≡◌, ◌≢◌, ℕ, refl, sym, ◌∙◌, ap, Bool, true, false, true≢false, cond, arith, ◌+◌, ◌&&◌, ◌||◌, List, [], ◌∷◌, ◌++◌, codes, map}
use Rattle.std.specs.Prelude.{ℤ, None, bytes_eq, filter, nat_le}
use Rattle.std.proofs.lemmas.Bool.{and_parts, leb-true}
use Rattle.std.proofs.lemmas.Slice.Eq.{bytes_eq-Decides}
use Rattle.std.specs.List.{flat_map}
use Rattle.promql_kind.specs.Functions.{Signature, name_of}
use Rattle.promql_ast.specs.Arguments.{count}
use Rattle.promql_ast.specs.Selectors.{Selector, selector}
use Rattle.promql_ast.specs.Tree.{Tree, aggregate, unary, binary, paren, subquery, number, string, vector, matrix, call, extension, MaybeTree, absent, present, Trees, no_trees, first_tree}
use Rattle.promql_rewrite.specs.Enforcing.{is_info}
use Rattle.promql_rewrite.specs.Selecting.{Series, selects}
use Rattle.promql_when.specs.Reads.{all_reads, is_bare_info, is_read, maybe_reads, reads, target_info}
use Rattle.promql_when.specs.Windows.{instant, is_within, matrix_window, multiples_in, step_of, subquery_window, vector_window}
use Rattle.promql_when.specs.declared.times.Times.{Times}
use Rattle.promql_when.specs.declared.times.Window.{Window}
use Rattle.promql_when.proofs.Orders.{or_cases}
use Rattle.promql_when.proofs.WithinWindows.{any_joined}
use Rattle.promql_meaning.specs.Seen.{Beside, all_seen, beside, info_beside, is_absent, matchers, maybe_seen, nothing, seen, series}
use Rattle.promql_meaning.specs.SeenAt.{SeenAt, SeenAts, aggregated, all_at_time, at_time, beside_at, called, extended, first_seen, in_window, instants, listed, negated, none_seen, operated, ranges, seen_at, stepped}
use Rattle.promql_meaning.specs.Stores.{Sample, Store, one_sample, read, with_series}
use Rattle.promql_meaning.proofs.SeenClauses.{matchers_in_first}

abbrev Reads : Type 0
Reads = List (Selector × Window)

-- ---- parts of what is seen at a time

abbrev expr_at : SeenAt → SeenAt
expr_at (aggregated op e p clause) = e
expr_at (negated e) = e
expr_at (operated op l r j) = l
expr_at s = s

abbrev right_at : SeenAt → SeenAt
right_at (operated op l r j) = r
right_at s = s

abbrev all_in : SeenAt → SeenAts
all_in (aggregated op e p clause) = p
all_in (stepped base range times es) = es
all_in (called f b es) = es
all_in (extended name gives es) = es
all_in s = none_seen

abbrev series_at : SeenAt → Store
series_at (instants xs) = xs
series_at (ranges base range mode xs) = xs
series_at s = []

abbrev beside_in : SeenAt → Beside
beside_in (called f b es) = b
beside_in s = nothing

abbrev series_of : Beside → Store
series_of (series xs) = xs
series_of b = []

abbrev first_at : SeenAt → SeenAts → SeenAt
first_at other none_seen = other
first_at other (first_seen e es) = e

abbrev others_at : SeenAts → SeenAts
others_at none_seen = none_seen
others_at (first_seen e es) = es

abbrev is_any : Store → Bool
is_any [] = false
is_any (x ∷ xs) = true

one_or : (a : Bool) → a || false ≡ true → a ≡ true
one_or a is = or_cases a false (a ≡ true) is (λ found. found) (λ missed. absurd (true≢false (sym missed)))

module _ (ts : Times) (labels : Series) (y : ℤ) (value : ℕ) where
  abbrev sample : Sample
  sample = record { time = y; value = value }

  abbrev with_one : Store
  with_one = one_sample labels y value

  abbrev is_among : Reads → Bool
  is_among = is_read (λ s. selects s labels) y

  -- of what is read first or after it
  among_cases : (a b : Reads) (P : Type 0) → is_among (a ++ b) ≡ true → (is_among a ≡ true → P) → (is_among b ≡ true → P) → P
  among_cases a b P is one other =
      or_cases (is_among a) (is_among b) P (sym (any_joined (λ r. selects r.0 labels && is_within r.1 y) a b) ∙ is) one other

  lies_in : (w : Window) (b : Bool) → is_within w y ≡ b → is_any (in_window w with_one) ≡ b
  lies_in w true is = ap (λ b. is_any (with_series labels (cond b (sample ∷ []) []) [])) is
  lies_in w false is = ap (λ b. is_any (with_series labels (cond b (sample ∷ []) []) [])) is

  any_in : (s : Selector) (w : Window) → is_among ((s, w) ∷ []) ≡ true → is_any (in_window w (read s with_one)) ≡ true
  any_in s w is =
      let both = one_or (selects s labels && is_within w y) is in
      ap (λ b. is_any (in_window w (cond b with_one []))) (and_parts (selects s labels) (is_within w y) both).0
      ∙ lies_in w true (and_parts (selects s labels) (is_within w y) both).1

  -- what a call of `info` without a second argument reads
  info_series : (f : Signature) (args : Trees) (x : ℤ) (store : Store) → is_bare_info f args ≡ true
      → series_of (beside_at ts x (beside store f args)) ≡ in_window (vector_window ts None None (instant x)) (read target_info store)
  info_series f args x store bare =
      ap (λ n. series_of (beside_at ts x (cond (bytes_eq n (codes "absent") || bytes_eq n (codes "absent_over_time")) (matchers_in_first args)
      (cond (bytes_eq n (codes "info")) (info_beside store args) nothing))))
      ((bytes_eq-Decides (name_of f) (codes "info")).0 (and_parts (bytes_eq (name_of f) (codes "info")) (nat_le (count args) 1) bare).0)
      ∙ of_args args (and_parts (bytes_eq (name_of f) (codes "info")) (nat_le (count args) 1) bare).1
    where
      of_args : (args : Trees) → nat_le (count args) 1 ≡ true
          → series_of (beside_at ts x (info_beside store args)) ≡ in_window (vector_window ts None None (instant x)) (read target_info store)
      of_args no_trees few = refl
      of_args (first_tree e no_trees) few = refl
      of_args (first_tree e (first_tree labels es)) few =
          absurd (let most = leb-true (count es + 1 + 1) 1 few in omega arith)

  -- what is read of a call besides its arguments
  bare_apart : (f : Signature) (args : Trees) (x : ℤ) → is_among (cond (is_bare_info f args) ((target_info, vector_window ts None None (instant x)) ∷ []) []) ≡ true
      → beside_at ts x (beside with_one f args) ≢ beside_at ts x (beside [] f args)
  bare_apart f args x is same = go (is_bare_info f args) refl is
    where
      go : (b : Bool) → is_bare_info f args ≡ b → is_among (cond b ((target_info, vector_window ts None None (instant x)) ∷ []) []) ≡ true → ⊥
      go true bare is =
          true≢false (sym (any_in target_info (vector_window ts None None (instant x)) is)
          ∙ ap is_any (sym (info_series f args x with_one bare) ∙ ap series_of same ∙ info_series f args x [] bare))
      go false bare is = true≢false (sym is)

  abbrev with_it : Tree → ℤ → SeenAt
  with_it = seen_at ts with_one

  abbrev without : Tree → ℤ → SeenAt
  without = seen_at ts []

  -- at one of the times of a subquery
  each_apart : (f g : ℤ → SeenAt) (rs : ℤ → Reads) → ((x : ℤ) → is_among (rs x) ≡ true → f x ≢ g x) → (xs : List ℤ)
      → is_among (flat_map rs xs) ≡ true → listed (map f xs) ≢ listed (map g xs)
  each_apart f g rs apart [] is same = true≢false (sym is)
  each_apart f g rs apart (x ∷ xs) is same =
      among_cases (rs x) (flat_map rs xs) ⊥ is (λ first. apart x first (ap (first_at (f x)) same))
      (λ more. each_apart f g rs apart xs more (ap others_at same))

  mutual
    pub read_apart : (t : Tree) (x : ℤ) → is_among (reads ts t x) ≡ true → with_it t x ≢ without t x
    read_apart (aggregate op e p m) x is same =
        among_cases (maybe_reads ts p x) (reads ts e x) ⊥ is (λ one. maybe_apart p x one (ap all_in same)) (λ more. read_apart e x more (ap expr_at same))
    read_apart (unary e) x is same = read_apart e x is (ap expr_at same)
    read_apart (binary op l r m) x is same =
        among_cases (reads ts l x) (reads ts r x) ⊥ is (λ one. read_apart l x one (ap expr_at same)) (λ more. read_apart r x more (ap right_at same))
    read_apart (paren e) x is same = read_apart e x is same
    read_apart (subquery e offset at range step) x is same =
        each_apart (with_it e) (without e) (reads ts e) (read_apart e) (multiples_in (step_of ts step) (subquery_window ts offset at range (instant x))) is
        (ap all_in same)
    read_apart (number n) x is same = true≢false (sym is)
    read_apart (string b) x is same = true≢false (sym is)
    read_apart (vector (selector name cs offset at)) x is same =
        true≢false (sym (any_in (selector name cs offset at) (vector_window ts offset at (instant x)) is) ∙ ap (λ e. is_any (series_at e)) same)
    read_apart (matrix (selector name cs offset at) range mode) x is same =
        true≢false (sym (any_in (selector name cs offset at) (matrix_window ts offset at range mode (instant x)) is) ∙ ap (λ e. is_any (series_at e)) same)
    read_apart (call f args) x is same =
        among_cases (all_reads ts args x) (cond (is_bare_info f args) ((target_info, vector_window ts None None (instant x)) ∷ []) []) ⊥ is
        (λ one. all_apart args x one (ap all_in same)) (λ more. bare_apart f args x more (ap beside_in same))
    read_apart (extension name gives es) x is same = all_apart es x is (ap all_in same)

    maybe_apart : (p : MaybeTree) (x : ℤ) → is_among (maybe_reads ts p x) ≡ true
        → all_at_time ts (maybe_seen with_one p) x ≢ all_at_time ts (maybe_seen [] p) x
    maybe_apart absent x is same = true≢false (sym is)
    maybe_apart (present e) x is same = read_apart e x is (ap (first_at (with_it e x)) same)

    all_apart : (es : Trees) (x : ℤ) → is_among (all_reads ts es x) ≡ true → all_at_time ts (all_seen with_one es) x ≢ all_at_time ts (all_seen [] es) x
    all_apart no_trees x is same = true≢false (sym is)
    all_apart (first_tree e es) x is same =
        among_cases (reads ts e x) (all_reads ts es x) ⊥ is (λ one. read_apart e x one (ap (first_at (with_it e x)) same))
        (λ more. all_apart es x more (ap others_at same))
