-- The grammar of `regex` reads the repetitions of plain patterns.
use Rattle.std.proofs.Common.{◌≡◌, ℕ, suc, ◌+◌, ◌*◌, ◌≤◌, Bool, true, false, ◌||◌, ◌==◌, [], ◌∷◌, ◌++◌, length, Option, Some, None, IsSomeAnd, unwrap_or, refl, sym, ◌∙◌, subst, ⊎_elim, arith, true≢false}
use Rattle.std.proofs.lemmas.Bool.{or_from, or_parts}
use Rattle.std.proofs.lemmas.Bool.Decides.{eqb_tells}
use Rattle.regex_syntax.proofs.Written.{grammar}
use Rattle.regex_syntax.specs.Brackets.{Nested}
use Rattle.regex_syntax.specs.Grammar.{bounds, repetitions}
use Rattle.regex_syntax.specs.Reading.{◌∈◌, first, is_at, is_empty, skip}
use Rattle.regex.specs.Patterns.{Re, default_config, repeat}
use Rattle.promql_text.specs.Texts.{Text}
use Rattle.promql_label.specs.declared.plain.After.TheVariants as after
use Rattle.promql_label.specs.PatternSize.{weight}
use Rattle.promql_label.specs.PlainPatterns.{is_repetition}
use Rattle.promql_label.proofs.pattern_weight.PatternWeights.{mark_weighs, plus_weighs, repeat_weighs, repeated_bound, star_weighs}
use Rattle.promql_label.proofs.plain_patterns.PlainAtoms.{not_empty}
use Rattle.promql_label.proofs.plain_patterns.PlainCounts.{CountRead, count_is_read}
use Rattle.promql_label.proofs.plain_patterns.PlainScans.{Begins, group, close, branch, class, escape, byte, Plain, item_goes_on, repetition_goes_on, start_begins}

-- ---- what comes after

-- what comes after a plain pattern as a whole: the end or `)`
abbrev pub ends_pattern : Text → Bool
ends_pattern r = is_empty r || is_at ")" r

pub end_of_pattern : (P : Text → Type 0) → P [] → ((z : Text) → P (41 ∷ z)) → (r : Text) → ends_pattern r ≡ true → P r
unfolding grammar
end_of_pattern P at_end closed [] ends = at_end
end_of_pattern P at_end closed (c ∷ z) ends = ⊎_elim
    (λ is. subst (λ c. P (c ∷ z)) (sym is.1) (closed z))
    (λ other. absurd (true≢false (sym ends ∙ or_from _ _ (not_empty c z) other.0)))
    (eqb_tells c 41)

end_unrepeated : (r : Text) → ends_pattern r ≡ true → is_at "?*+{" r ≡ false
unfolding grammar
end_unrepeated = end_of_pattern (λ r. is_at "?*+{" r ≡ false) refl (λ z. refl)

-- a byte that begins no repetition is no `?` either
not_lazy : (t : Text) → is_at "?*+{" t ≡ false → is_at "?" t ≡ false
unfolding grammar
not_lazy [] h = refl
not_lazy (b ∷ z) h = (or_parts (b == 63) _ h).0

not_repeated : (n : ℕ) (sub : Nested Re) (t : Text) → is_at "?*+{" t ≡ false → repetitions default_config (suc n) sub t ≡ Some (sub, t)
unfolding grammar
not_repeated n sub t h = rw h refl

-- ---- bounds

-- the bounds of a repetition are read from this byte on, up to a text, while the repetitions of what is left fall from f to g
pub record Bounded (b f g : ℕ) (t rest : Text) : Type 0 where
  pub operates : (b ∈ "?*+{") ≡ true
  pub least : ℕ
  pub most : Option ℕ
  pub times : ℕ
  pub is : bounds default_config (b ∷ t) ≡ Some (least, most, rest)
  pub repeats : f ≡ times * g
  pub falls : g ≤ f
  pub weighs : (greedy : Bool) (a : Re) → weight (repeat least most greedy a) ≤ weight a * times

sign_bounds : (b f : ℕ) (t : Text) → is_repetition b ≡ true → Bounded b f f t t
unfolding grammar
sign_bounds b f t h = ⊎_elim
    (λ star. subst (λ b. Bounded b f f t t) (sym star.1) (record { operates = refl; least = 0; most = None; times = 1; is = refl; repeats = omega arith; falls = omega arith; weighs = star_weighs }))
    (λ no_star. ⊎_elim
    (λ plus. subst (λ b. Bounded b f f t t) (sym plus.1) (record { operates = refl; least = 1; most = None; times = 1; is = refl; repeats = omega arith; falls = omega arith; weighs = plus_weighs }))
    (λ no_plus. ⊎_elim
    (λ mark. subst (λ b. Bounded b f f t t) (sym mark.1) (record { operates = refl; least = 0; most = Some 1; times = 1; is = refl; repeats = omega arith; falls = omega arith; weighs = mark_weighs }))
    (λ none. absurd (true≢false (sym h ∙ or_from _ _ (or_from _ _ no_star.0 no_plus.0) none.0)))
    (eqb_tells b 63))
    (eqb_tells b 43))
    (eqb_tells b 42)

count_bounds : (r : Text) (o c f most : ℕ) (t : Text) (read : CountRead r o c f most t) → Bounded 123 f read.left t (read.rest ++ r)
unfolding bounds skip first
count_bounds r o c f most t read = record {
  operates = refl;
  least = read.least;
  most = read.greatest;
  times = 1 + unwrap_or read.greatest read.least;
  is = read.is;
  repeats = read.repeats;
  falls = omega (arith, read.repeats);
  weighs = λ greedy a. repeat_weighs read.least read.greatest greedy a read.rising;
}

-- ---- repetitions

module _ (r : Text) (ends : ends_pattern r ≡ true) where
  begun_unrepeated : (o c f b : ℕ) (z : Text) → Begins o c f b z → is_at "?*+{" (b ∷ (z ++ r)) ≡ false
  unfolding grammar
  begun_unrepeated o c f b z (group is _ _) = subst (λ b. is_at "?*+{" (b ∷ (z ++ r)) ≡ false) (sym is) refl
  begun_unrepeated o c f b z (close is _ _) = subst (λ b. is_at "?*+{" (b ∷ (z ++ r)) ≡ false) (sym is) refl
  begun_unrepeated o c f b z (branch is _) = subst (λ b. is_at "?*+{" (b ∷ (z ++ r)) ≡ false) (sym is) refl
  begun_unrepeated o c f b z (class is _) = subst (λ b. is_at "?*+{" (b ∷ (z ++ r)) ≡ false) (sym is) refl
  begun_unrepeated o c f b z (escape is _) = subst (λ b. is_at "?*+{" (b ∷ (z ++ r)) ≡ false) (sym is) refl
  begun_unrepeated o c f b z (byte one _) = one.repeats

  unrepeated : (o c f : ℕ) (u : Text) → Plain o c f after.Start u → is_at "?*+{" (u ++ r) ≡ false
  unrepeated o c f [] plain = end_unrepeated r ends
  unrepeated o c f (b ∷ z) plain = begun_unrepeated o c f b z (start_begins o c f b z plain)

  -- what an item is read up to: nothing there is repeated
  pub record AfterItem (o c f most : ℕ) (sub whole : Re) (t : Text) : Type 0 where
    pub rest : Text
    pub left : ℕ
    pub is : t ≡ rest ++ r
    pub plain : Plain o c left after.Start rest
    pub short : length rest ≤ most
    pub weighs : weight whole * left ≤ weight sub * f
    pub falls : left ≤ f

  abbrev Repeated : ℕ → ℕ → ℕ → ℕ → Nested Re → Nested Re × Text → Type 0
  Repeated o c f most sub read = (read.0.depth ≤ sub.depth + 1) × AfterItem o c f most sub.value read.0.value read.1

  none_follows : (n o c f : ℕ) (sub : Nested Re) (u : Text) → Plain o c f after.Start u → IsSomeAnd (repetitions default_config (suc n) sub (u ++ r)) (Repeated o c f (length u) sub)
  none_follows n o c f sub u plain = rw (not_repeated n sub (u ++ r) (unrepeated o c f u plain))
      (omega arith, record { rest = u; left = f; is = refl; plain = plain; short = omega arith; weighs = omega arith; falls = omega arith })

  shorter : (o c f most more : ℕ) (sub : Nested Re) (made : Option (Nested Re × Text)) → most ≤ more → IsSomeAnd made (Repeated o c f most sub) → IsSomeAnd made (Repeated o c f more sub)
  shorter o c f most more sub None le h = absurd h
  shorter o c f most more sub (Some read) le h = (
    h.0,
    record {
      rest = h.1.rest;
      left = h.1.left;
      is = h.1.is;
      plain = h.1.plain;
      short = omega (arith, le, h.1.short);
      weighs = h.1.weighs;
      falls = h.1.falls;
    },
  )

  -- after the bounds, one deeper
  under : (o c f g b : ℕ) (sub : Nested Re) (greedy : Bool) (t t' u : Text) (bounded : Bounded b f g t t') → Plain o c g after.Start u
      → Repeated o c f (length u) sub (record { value = repeat bounded.least bounded.most greedy sub.value; depth = sub.depth + 1 }, u ++ r)
  under o c f g b sub greedy t t' u bounded plain = (
    omega arith,
    record {
      rest = u;
      left = g;
      is = refl;
      plain = plain;
      short = omega arith;
      weighs = repeated_bound (weight sub.value) (weight (repeat bounded.least bounded.most greedy sub.value)) bounded.times f g (bounded.weighs greedy sub.value) bounded.repeats;
      falls = bounded.falls;
    },
  )

  greedy_follows : (n o c f g b : ℕ) (sub : Nested Re) (t u : Text) → Bounded b f g t (u ++ r) → Plain o c g after.Start u
      → IsSomeAnd (repetitions default_config (suc (suc n)) sub (b ∷ t)) (Repeated o c f (length u) sub)
  unfolding repetitions skip first
  greedy_follows n o c f g b sub t u bounded plain =
      let unrepeated = unrepeated o c g u plain in
      rw (bounded.operates, bounded.is, not_lazy (u ++ r) unrepeated, unrepeated) (under o c f g b sub true t (u ++ r) u bounded plain)

  lazy_follows : (n o c f g b : ℕ) (sub : Nested Re) (t u : Text) → Bounded b f g t (63 ∷ (u ++ r)) → Plain o c g after.Start u
      → IsSomeAnd (repetitions default_config (suc (suc n)) sub (b ∷ t)) (Repeated o c f (length u) sub)
  unfolding repetitions skip first
  lazy_follows n o c f g b sub t u bounded plain =
      rw (bounded.operates, bounded.is, unrepeated o c g u plain) (under o c f g b sub false t (63 ∷ (u ++ r)) u bounded plain)

  one_follows : (n o c f g b : ℕ) (sub : Nested Re) (t z : Text) → Bounded b f g t (z ++ r) → Plain o c g after.Repetition z
      → IsSomeAnd (repetitions default_config (suc (suc n)) sub (b ∷ t)) (Repeated o c f (length z) sub)
  one_follows n o c f g b sub t [] bounded plain = greedy_follows n o c f g b sub t [] bounded plain
  one_follows n o c f g b sub t (d ∷ z) bounded plain = ⊎_elim
      (λ lazy. shorter o c f (length z) (length (d ∷ z)) sub (repetitions default_config (suc (suc n)) sub (b ∷ t)) (omega arith)
      (lazy_follows n o c f g b sub t z (subst (λ d. Bounded b f g t (d ∷ (z ++ r))) lazy.0 bounded) lazy.1))
      (λ greedy. greedy_follows n o c f g b sub t (d ∷ z) bounded greedy)
      (repetition_goes_on o c g d z plain)

  -- an item under its repetition, if it has one
  pub repetition_is_read : (o c f : ℕ) (sub : Nested Re) (y : Text) → Plain o c f after.Item y
      → IsSomeAnd (repetitions default_config (suc (length (y ++ r))) sub (y ++ r)) (Repeated o c f (length y) sub)
  repetition_is_read o c f sub [] plain = none_follows (length r) o c f sub [] plain
  repetition_is_read o c f sub (b ∷ z) plain = ⊎_elim
      (λ one. shorter o c f (length z) (length (b ∷ z)) sub (repetitions default_config (suc (suc (length (z ++ r)))) sub (b ∷ (z ++ r))) (omega arith)
      (one_follows (length (z ++ r)) o c f f b sub (z ++ r) z (sign_bounds b f (z ++ r) one.0) one.1))
      (λ other. ⊎_elim
      (λ count. subst (λ b. IsSomeAnd (repetitions default_config (suc (suc (length (z ++ r)))) sub (b ∷ (z ++ r))) (Repeated o c f (length (b ∷ z)) sub)) (sym count.0)
      (let read = count_is_read r o c f z count.1 in
      shorter o c f (length read.rest) (length (123 ∷ z)) sub (repetitions default_config (suc (suc (length (z ++ r)))) sub (123 ∷ (z ++ r))) (omega (arith, read.short))
      (one_follows (length (z ++ r)) o c f read.left 123 sub (z ++ r) read.rest (count_bounds r o c f (length z) (z ++ r) read) read.plain)))
      (λ none. none_follows (length (b ∷ (z ++ r))) o c f sub (b ∷ z) none)
      other)
      (item_goes_on o c f b z plain)
