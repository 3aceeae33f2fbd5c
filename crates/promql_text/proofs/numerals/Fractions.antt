-- Digits after a point, without zeros at the end.
use Rattle.std.proofs.Common.{◌≡◌, ℕ, zero, suc, ◌+◌, ◌-◌, ◌*◌, ◌/◌, ◌%◌, ◌^◌, ◌<◌, ◌≤◌, [], ◌∷◌, ◌++◌, length, refl, sym, ap, ◌∙◌, subst, append-nil, append_assoc, arith}
use Rattle.std.specs.Prelude.{◌==◌}
use Rattle.std.specs.Char.{digit_value}
use Rattle.std.specs.Fmt.{decimal}
use Rattle.std.specs.Str.Parse.{AllDigits, digits_value}
use Rattle.std.proofs.lemmas.Bool.{cond_both, cond-false, eqb-true, ne_eqb}
use Rattle.std.proofs.lemmas.Grind.{common_steps}
use Rattle.std.proofs.lemmas.Fmt.{decimal_digit}
use Rattle.std.proofs.Math.Nat.{pow-suc, div-lt_iff_lt-mul, div-add-mod}
use Rattle.promql_text.specs.Texts.{Text}
use Rattle.promql_text.specs.DurationText.{fraction_text}
use Rattle.promql_text.proofs.durations.RoundedQuotients.{ten_positive, ten_split, digits_after}

pub fraction-none : (k : ℕ) → fraction_text k 0 ≡ []
unfolding fraction_text
fraction-none zero = refl
fraction-none (suc k) = refl

-- the first digit is one
pub first_place : (k r : ℕ) → r < 10 ^ suc k → r / 10 ^ k < 10
first_place k r below =
    let wide : 10 ^ suc k ≡ 10 ^ k * 10 = pow-suc 10 k in
    let fits : r < 10 * 10 ^ k = omega arith in
    (div-lt_iff_lt-mul (ten_positive k)).1 fits

pub fraction-first : (k r : ℕ) → (r ≡ 0 → ⊥) → r < 10 ^ suc k → fraction_text (suc k) r ≡ decimal (r / 10 ^ k) ++ fraction_text k (r % 10 ^ k)
unfolding fraction_text
fraction-first k r some below =
    cond-false (r == 0) _ _ (ne_eqb r 0 some)
    ∙ ap (λ ds. ds ++ fraction_text k (r % 10 ^ k)) (sym (decimal_digit (r / 10 ^ k) (first_place k r below)))

pub ten_above : (k n : ℕ) → n ≡ 10 ^ k → 0 < n
ten_above k n is = subst (λ x. 0 < x) (sym is) (ten_positive k)

-- one more digit is written
pub fraction_more : (written all : Text) (place rest unit : ℕ) → place < 9 → (rest ≡ 0 → ⊥) → rest < 10 ^ (9 - place) → unit ≡ 10 ^ (8 - place) → written ++ fraction_text (9 - place) rest ≡ all → (written ++ decimal (rest / unit)) ++ fraction_text (9 - (place + 1)) (rest % unit) ≡ all
fraction_more written all place rest unit early some below is all_is =
    let k : ℕ = 8 - place in
    let here : 9 - place ≡ suc k = omega arith in
    let next : 9 - (place + 1) ≡ k = omega arith in
    append_assoc written (decimal (rest / unit)) (fraction_text (9 - (place + 1)) (rest % unit))
    ∙ ap (λ u. written ++ (decimal (rest / u) ++ fraction_text (9 - (place + 1)) (rest % u))) is
    ∙ ap (λ m. written ++ (decimal (rest / 10 ^ k) ++ fraction_text m (rest % 10 ^ k))) next
    ∙ ap (λ t. written ++ t) (sym (fraction-first k rest some (subst (λ m. rest < 10 ^ m) here below)) ∙ ap (λ m. fraction_text m rest) (sym here))
    ∙ all_is

pub fraction_below : (place rest unit : ℕ) → unit ≡ 10 ^ (8 - place) → place < 9 → rest % unit < 10 ^ (9 - (place + 1))
fraction_below place rest unit is early =
    let next : 9 - (place + 1) ≡ 8 - place = omega arith in
    let some = ten_above (8 - place) unit is in
    subst (λ m. rest % unit < 10 ^ m) (sym next) (subst (λ u. rest % unit < u) is (omega arith))

pub fraction_done : (written all : Text) (k rest : ℕ) → rest ≡ 0 → written ++ fraction_text k rest ≡ all → written ≡ all
fraction_done written all k rest none is = (sym (append-nil written) ∙ ap (λ t. written ++ t) (sym (ap (fraction_text k) none ∙ fraction-none k)) ∙ is)

pub fraction_all : (written all : Text) (place rest : ℕ) → 9 ≤ place → written ++ fraction_text (9 - place) rest ≡ all → written ≡ all
unfolding fraction_text
fraction_all written all place rest late is =
    let none : 9 - place ≡ 0 = omega arith in
    (sym (append-nil written) ∙ ap (λ k. written ++ fraction_text k rest) (sym none) ∙ is)

-- ---- what the digits write

-- at most k digits, which are r with zeros after them up to k
pub record IsFraction (ds : Text) (k r : ℕ) : Type 0 where
  pub digits : AllDigits 10 ds
  pub short : length ds ≤ k
  pub value : digits_value 10 ds * 10 ^ (k - length ds) ≡ r

place_is : (q : ℕ) → q < 10 → digit_value (48 + q) ≡ q
place_is q small = grind (arith, common_steps)

first_value : (q : ℕ) (t : Text) → q < 10 → digits_value 10 ((48 + q) ∷ t) ≡ q * 10 ^ length t + digits_value 10 t
first_value q t small =
    digits_after (0 * 10 + digit_value (48 + q)) t
    ∙ ap (λ d. d * 10 ^ length t + digits_value 10 t) (let e : 0 * 10 + digit_value (48 + q) ≡ q = omega (arith, place_is q small) in e)

-- a digit before the others
one_place : (k r : ℕ) (t : Text) → r < 10 ^ suc k → IsFraction t k (r % 10 ^ k) → IsFraction ((48 + r / 10 ^ k) ∷ t) (suc k) r
one_place k r t below rest =
    let q : ℕ = r / 10 ^ k in
    let small = first_place k r below in
    let left : suc k - suc (length t) ≡ k - length t = omega arith in
    record {
      digits = (subst (λ d. d < 10) (sym (place_is q small)) small, rest.digits);
      short = omega (arith, rest.short);
      value =
          ap (λ m. digits_value 10 ((48 + q) ∷ t) * 10 ^ m) left
          ∙ ap (λ v. v * 10 ^ (k - length t)) (first_value q t small)
          ∙ fraction_sum q (10 ^ length t) (digits_value 10 t) (10 ^ (k - length t)) (10 ^ k) (r % 10 ^ k) r (sym (ten_split k (length t) rest.short)) rest.value (div-add-mod r (10 ^ k));
    }
  where
    fraction_sum : (q p v z w m r : ℕ) → z * p ≡ w → v * z ≡ m → w * q + m ≡ r → (q * p + v) * z ≡ r
    fraction_sum q p v z w m r tens value sum = omega (arith, ap (λ x. x * q) tens)

pub fraction_is : (k r : ℕ) → r < 10 ^ k → IsFraction (fraction_text k r) k r
unfolding fraction_text
fraction_is zero r below = record { digits = tt; short = omega arith; value = omega arith }
fraction_is (suc k) r below =
    cond_both (r == 0) [] ((48 + r / 10 ^ k) ∷ fraction_text k (r % 10 ^ k)) (λ ds. IsFraction ds (suc k) r)
    (λ none. record { digits = tt; short = omega arith; value = omega (arith, eqb-true r 0 none) })
    (λ _. one_place k r (fraction_text k (r % 10 ^ k)) below (fraction_is k (r % 10 ^ k) (rest_below r (10 ^ k) (ten_positive k))))
  where
    rest_below : (r p : ℕ) → 0 < p → r % p < p
    rest_below r p some = omega arith
