-- Results within a height.
use Rattle.std.proofs.Common.{◌≡◌, ℕ, suc, ◌+◌, ◌<◌, ◌≤◌, ⊎_elim, max, refl, sym, ◌∙◌, ap, arith, true, false, cond}
use Rattle.std.specs.Prelude.{nat_lt, if◌then◌else◌, Result, Err}
use Rattle.std.proofs.lemmas.Bool.{cases_lt, cond_below, cond_above}
use Rattle.promql_grammar.specs.Parsing.{Stop, too_high}
use Rattle.promql_grammar.specs.Results.{◌then◌}

-- a result, where the height is at most n
abbrev pub within : {A : Type 0} → ℕ → ℕ → Result A Stop → Result A Stop
within n h r = if nat_lt n h then Err too_high else r

pub within_low : {A : Type 0} (n h : ℕ) (r : Result A Stop) → h ≤ n → within n h r ≡ r
within_low n h r e = sym (cond_above n h (Err too_high) r r e refl)

pub within_high : {A : Type 0} (n h : ℕ) (r : Result A Stop) → n < h → within n h r ≡ Err too_high
within_high n h r e = sym (cond_below n h (Err too_high) r e)

pub within_then : {A B : Type 0} (n h : ℕ) (r : Result A Stop) (f : A → Result B Stop) → (within n h r then f) ≡ within n h (r then f)
within_then n h r f = elim (nat_lt n h) as (λ b. (cond b (Err too_high) r then f) ≡ cond b (Err too_high) (r then f)) [ true ↦ refl | false ↦ refl ]

within_deep : {A : Type 0} (n h : ℕ) (r : Result A Stop) → r ≡ Err too_high → within n h r ≡ Err too_high
within_deep n h r e = elim (nat_lt n h) as (λ b. cond b (Err too_high) r ≡ Err too_high) [ true ↦ refl | false ↦ e ]

pub within_suc : {A : Type 0} (n h h' : ℕ) (r : Result A Stop) → h' ≡ 1 + h → within n h r ≡ within (suc n) h' r
within_suc n h h' r e = ⊎_elim (λ lt. within_high n h r lt ∙ sym (within_high (suc n) h' r (omega arith))) (λ le. within_low n h r le ∙ sym (within_low (suc n) h' r (omega arith))) (cases_lt n h)

pub within_both : {A : Type 0} (n a b : ℕ) (r : Result A Stop) → within n a (within n b r) ≡ within n (max a b) r
within_both n a b r =
    ⊎_elim (λ lt. within_high n a (within n b r) lt ∙ sym (within_high n (max a b) r (omega arith)))
    (λ le. within_low n a (within n b r) le ∙ ⊎_elim (λ lt. within_high n b r lt ∙ sym (within_high n (max a b) r (omega arith))) (λ le'. within_low n b r le' ∙ sym (within_low n (max a b) r (omega arith))) (cases_lt n b))
    (cases_lt n a)

pub within_three : {A : Type 0} (n a b : ℕ) (r : Result A Stop) → within (suc n) a (within n a (within n b r)) ≡ within (suc n) (1 + max a b) r
within_three n a b r =
    ap (within (suc n) a) (within_both n a b r) ∙ ⊎_elim (λ lt. within_deep (suc n) a _ (within_high n (max a b) r lt) ∙ sym (within_high (suc n) (1 + max a b) r (omega arith)))
    (λ le. ap (within (suc n) a) (within_low n (max a b) r le) ∙ within_low (suc n) a r (omega arith) ∙ sym (within_low (suc n) (1 + max a b) r (omega arith)))
    (cases_lt n (max a b))
