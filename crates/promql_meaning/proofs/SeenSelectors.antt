-- What a selector with a matcher reads.
use Rattle.std.proofs.Common.{◌≡◌, ℕ, refl, sym, ◌∙◌, ap, Bool, true, false, cond, ◌&&◌, [], ◌∷◌}
use Rattle.std.specs.Prelude.{filter}
use Rattle.promql_label.specs.PlainMatchers.{PlainMatcher}
use Rattle.promql_ast.specs.Selectors.{Selector, selector}
use Rattle.promql_ast.specs.declared.range_mode.RangeMode.{RangeMode}
use Rattle.promql_rewrite.specs.Enforcing.{enforced_selector}
use Rattle.promql_rewrite.specs.Selecting.{allows, selects}
use Rattle.promql_rewrite.proofs.enforcement.EnforcedSelectors.{selects_enforced}
use Rattle.promql_meaning.specs.Stores.{Stored, Store, kept, read}
use Rattle.promql_meaning.specs.Seen.{instants, ranges}
use Rattle.promql_meaning.proofs.SeenClauses.{instants_of, ranges_of}

-- nothing passes where the second test fails
none_of : (x : Stored) (r : Store) (a : Bool) → cond (a && false) (x ∷ r) r ≡ r
none_of x r true = refl
none_of x r false = refl

-- where the second test passes, the first one tells
first_tells : (x : Stored) (r : Store) (a : Bool) → cond (a && true) (x ∷ r) r ≡ cond a (x ∷ r) r
first_tells x r true = refl
first_tells x r false = refl

module _ (p q : Stored → Bool) where
  abbrev both : Store → Store
  both = filter (λ x. p x && q x)

  -- what passes both tests is found again among what passes the second
  found_again : (xs : Store) → both xs ≡ both (filter q xs)
  found_again [] = refl
  found_again (x ∷ xs) = go (q x) refl (found_again xs)
    where
      go : (b : Bool) → q x ≡ b → both xs ≡ both (filter q xs) → cond (p x && q x) (x ∷ both xs) (both xs) ≡ both (cond (q x) (x ∷ filter q xs) (filter q xs))
      go true is again =
          (λ i. cond (p x && q x) (x ∷ again i) (again i))
          ∙ ap (λ b. both (cond b (x ∷ filter q xs) (filter q xs))) (sym is)
      go false is again =
          ap (λ b. cond (p x && b) (x ∷ both xs) (both xs)) is
          ∙ none_of x (both xs) (p x)
          ∙ again
          ∙ ap (λ b. both (cond b (x ∷ filter q xs) (filter q xs))) (sym is)

  -- among what passes the second test, what passes both is what passes the first
  first_alone : (xs : Store) → both (filter q xs) ≡ filter p (filter q xs)
  first_alone [] = refl
  first_alone (x ∷ xs) = go (q x) refl (first_alone xs)
    where
      go : (b : Bool) → q x ≡ b → both (filter q xs) ≡ filter p (filter q xs)
          → both (cond (q x) (x ∷ filter q xs) (filter q xs)) ≡ filter p (cond (q x) (x ∷ filter q xs) (filter q xs))
      go true is rest =
          ap (λ b. both (cond b (x ∷ filter q xs) (filter q xs))) is
          ∙ ap (λ b. cond (p x && b) (x ∷ both (filter q xs)) (both (filter q xs))) is
          ∙ first_tells x (both (filter q xs)) (p x)
          ∙ ap (λ r. cond (p x) (x ∷ r) r) rest
          ∙ ap (λ b. filter p (cond b (x ∷ filter q xs) (filter q xs))) (sym is)
      go false is rest =
          ap (λ b. both (cond b (x ∷ filter q xs) (filter q xs))) is
          ∙ rest
          ∙ ap (λ b. filter p (cond b (x ∷ filter q xs) (filter q xs))) (sym is)

module _ (c : PlainMatcher) (store : Store) where
  same_tests : (s : Selector) → ◌≡◌ {A = Stored → Bool} (λ x. selects (enforced_selector c s) x.labels) (λ x. selects s x.labels && allows c x.labels)
  same_tests s = λ i x. selects_enforced c s x.labels i

  -- a selector with the matcher reads the same where the store has only what the matcher allows
  read_again : (s : Selector) → read (enforced_selector c s) store ≡ read (enforced_selector c s) (kept c store)
  read_again s =
      ap (λ f. filter f store) (same_tests s)
      ∙ found_again (λ x. selects s x.labels) (λ x. allows c x.labels) store
      ∙ ap (λ f. filter f (kept c store)) (sym (same_tests s))

  -- and there it reads what it reads without the matcher
  read_at_home : (s : Selector) → read (enforced_selector c s) (kept c store) ≡ read s (kept c store)
  read_at_home s =
      ap (λ f. filter f (kept c store)) (same_tests s)
      ∙ first_alone (λ x. selects s x.labels) (λ x. allows c x.labels) store

  pub instants_again : (s : Selector) → instants_of store (enforced_selector c s) ≡ instants_of (kept c store) (enforced_selector c s)
  instants_again (selector name cs offset at) = ap (λ r. instants r offset at) (read_again (selector name cs offset at))

  pub ranges_again : (s : Selector) (range : ℕ) (mode : RangeMode) → ranges_of store (enforced_selector c s) range mode ≡ ranges_of (kept c store) (enforced_selector c s) range mode
  ranges_again (selector name cs offset at) range mode = ap (λ r. ranges r offset at range mode) (read_again (selector name cs offset at))

  pub instants_at_home : (s : Selector) → instants_of (kept c store) (enforced_selector c s) ≡ instants_of (kept c store) s
  instants_at_home (selector name cs offset at) = ap (λ r. instants r offset at) (read_at_home (selector name cs offset at))

  pub ranges_at_home : (s : Selector) (range : ℕ) (mode : RangeMode) → ranges_of (kept c store) (enforced_selector c s) range mode ≡ ranges_of (kept c store) s range mode
  ranges_at_home (selector name cs offset at) range mode = ap (λ r. ranges r offset at range mode) (read_at_home (selector name cs offset at))
