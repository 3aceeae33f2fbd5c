-- The one form of a number.
use Rattle.std.proofs.Common.{◌≡◌, ◌≢◌, ℕ, zero, suc, ◌+◌, ◌*◌, ◌/◌, ◌%◌, ◌^◌, ◌<◌, ◌≤◌, ⊎_elim, Bool, true, false, not, ◌&&◌, arith, ap, ◌∙◌, sym, refl}
use Rattle.std.proofs.Math.Nat.{mul-div_left, zero-mul}
use Rattle.std.proofs.lemmas.Bool.{cases_lt, eq-eqb}
use Rattle.std.proofs.lemmas.Nat.{mul-le}
use Rattle.promql_text.specs.Numbers.{Exact, IsExact, negate, tens}
use Rattle.promql_text.specs.Values.{IsNumber, neg}
use Rattle.promql_text.specs.declared.number.Number.{Number}
use Rattle.promql_text.specs.declared.number.Number.TheVariants.{Finite, Inf, NegInf, NaN}
use Rattle.promql_text.proofs.numbers.ReadsBack.{zero_is}
use Rattle.promql_text.proofs.numbers.Tens.{below_product, tens_is, ten_pos}

-- ---- the other sign

and_false : (b : Bool) → (b && false) ≡ false
and_false true = refl
and_false false = refl

exact_negated : (d : Exact) → IsExact d → IsExact (negate d)
exact_negated d e = record {
  short = e.short;
  ends = e.ends;
  one_zero = λ none. (ap (λ t. not d.is_negative && not t) (eq-eqb d.digits 0 none) ∙ and_false (not d.is_negative), (e.one_zero none).1, (e.one_zero none).2);
  one_side = e.one_side;
  below = e.below;
  above = e.above;
}

pub negated_in_form : (v : Number) → IsNumber v → IsNumber (neg v)
negated_in_form (Finite d) is = exact_negated d is
negated_in_form Inf is = tt
negated_in_form NegInf is = tt
negated_in_form NaN is = tt

-- ---- one value

pub same_zeros : (a b y z : ℕ) → a % 10 ≢ 0 → b % 10 ≢ 0 → a * 10 ^ y ≡ b * 10 ^ z → y ≡ z
same_zeros a b y z last end is =
    sym (tens_is (y + z) a y last (omega arith)) ∙ ap (tens (y + z)) is ∙ tens_is (y + z) b z end (omega arith)

pub same_digits : (a b y z : ℕ) → y ≡ z → a * 10 ^ y ≡ b * 10 ^ z → a ≡ b
same_digits a b y z e is =
    let one : a * 10 ^ y ≡ b * 10 ^ y = is ∙ ap (λ k. b * 10 ^ k) (sym e) in
    sym (mul-div_left a (ten_pos y)) ∙ ap (λ n. n / 10 ^ y) one ∙ mul-div_left b (ten_pos y)

abbrev exact_of : Bool → ℕ → ℕ → ℕ → Exact
exact_of b c z p = record { is_negative = b; digits = c; zeros = z; places = p }

-- one value: their digits, with the zeros and places of both, are one whole number
abbrev pub SameSize : Exact → Exact → Type 0
SameSize v w = v.digits * 10 ^ (v.zeros + w.places) ≡ w.digits * 10 ^ (w.zeros + v.places)

none_both : (v w : Exact) → v.digits ≡ 0 → SameSize v w → w.digits ≡ 0
none_both v w none same =
    let zero_size : v.digits * 10 ^ (v.zeros + w.places) ≡ 0 = ap (λ n. n * 10 ^ (v.zeros + w.places)) none ∙ zero-mul (10 ^ (v.zeros + w.places)) in
    let low = below_product w.digits (w.zeros + v.places) in
    omega (arith, low, zero_size, same)

sides : (a b c d : ℕ) → (0 < b → a ≡ 0) → (0 < d → c ≡ 0) → a + d ≡ c + b → (a ≡ c) × (b ≡ d)
sides a zero c zero left right is = (omega arith, refl)
sides a (suc b) c zero left right is = absurd (let h : a ≡ 0 = left (omega arith) in omega arith)
sides a zero c (suc d) left right is = absurd (let h : c ≡ 0 = right (omega arith) in omega arith)
sides a (suc b) c (suc d) left right is = (let h : a ≡ 0 = left (omega arith) in let k : c ≡ 0 = right (omega arith) in (omega arith, omega arith))

other_some : (a b p q : ℕ) → 0 < a → 1 ≤ p → a * p ≡ b * q → 0 < b
other_some a zero p q some one is = absurd (let h = zero-mul q in let low = mul-le 1 1 a p some one in omega (arith, h, low, is))
other_some a (suc b) p q some one is = omega arith

pub one_form : (v w : Exact) → IsExact v → IsExact w → v.is_negative ≡ w.is_negative → SameSize v w → v ≡ w
one_form v w e f sign same =
    ⊎_elim
    (λ some.
    let other : 0 < w.digits = (other_some v.digits w.digits (10 ^ (v.zeros + w.places)) (10 ^ (w.zeros + v.places)) some (ten_pos (v.zeros + w.places)) same) in
    let last : v.digits % 10 ≢ 0 = λ h. absurd (let k : v.digits ≡ 0 = e.ends h in omega arith) in
    let end : w.digits % 10 ≢ 0 = λ h. absurd (let k : w.digits ≡ 0 = f.ends h in omega arith) in
    let zeros : v.zeros + w.places ≡ w.zeros + v.places = same_zeros v.digits w.digits (v.zeros + w.places) (w.zeros + v.places) last end same in
    let digits : v.digits ≡ w.digits = same_digits v.digits w.digits (v.zeros + w.places) (w.zeros + v.places) zeros same in
    let s : (v.zeros ≡ w.zeros) × (v.places ≡ w.places) = sides v.zeros v.places w.zeros w.places e.one_side f.one_side zeros in
    ap (λ b. exact_of b v.digits v.zeros v.places) sign ∙ ap (λ c. exact_of w.is_negative c v.zeros v.places) digits
    ∙ ap (λ z. exact_of w.is_negative w.digits z v.places) s.0 ∙ ap (λ p. exact_of w.is_negative w.digits w.zeros p) s.1)
    (λ low.
    let none : v.digits ≡ 0 = omega arith in
    sym (zero_is v e none) ∙ zero_is w f (none_both v w none same))
    (cases_lt 0 v.digits)
