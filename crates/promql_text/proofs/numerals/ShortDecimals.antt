-- The number of a short text of digits with a point.
use Rattle.std.proofs.Common.{◌≡◌, ◌≢◌, ℕ, zero, suc, ◌+◌, ◌*◌, ◌/◌, ◌%◌, ◌^◌, ◌<◌, ◌≤◌, true, false, [], ◌∷◌, ◌++◌, length, drop, refl, sym, ap, ◌∙◌, subst, Ok, Some, arith, append-nil, length-append}
use Rattle.std.specs.Prelude.{option_map}
use Rattle.std.specs.Option.{ok_or}
use Rattle.std.specs.Char.{digit_value, is_ascii_digit}
use Rattle.std.specs.List.{prefix_len}
use Rattle.std.specs.Str.Parse.{AllDigits, digits_value, digits_value_after}
use Rattle.std.proofs.lemmas.List.{nil_from_length, take-append-drop}
use Rattle.std.proofs.lemmas.Nat.{mul-le}
use Rattle.std.proofs.Math.Nat.{div-le_self, pow-le-pow_right, pow-suc}
use Rattle.promql_text.specs.Texts.{Text}
use Rattle.promql_text.specs.DecimalForm.{digit_run, front, past_run}
use Rattle.promql_text.specs.NumberText.{read_number}
use Rattle.promql_text.specs.Numbers.{Exact, from_digits, tens}
use Rattle.promql_text.specs.declared.number.Number.TheVariants as number
use Rattle.promql_text.specs.declared.number.NumberFault.TheVariants as fault
use Rattle.promql_text.proofs.numbers.Finites.{finite_short}
use Rattle.promql_text.proofs.numerals.Plain.{AllPlain, plain_append, plain_digits}
use Rattle.promql_text.proofs.numerals.Radix.{value_append}
use Rattle.promql_text.proofs.numbers.ReadsBack.{not_octal_point, number_signed}
use Rattle.promql_text.proofs.numerals.Runs.{digit_run_digit, front_digit, past_run_digit, run_digits}
use Rattle.promql_text.proofs.numerals.ShortNumbers.{zeroless}
use Rattle.promql_text.proofs.numbers.Tens.{Splits, below_product, splits}
use Rattle.promql_text.proofs.numerals.TextForms.{plain_numeral, reading_point}

-- ---- a number that has room for the digits after it

pub room_below : (n k : ℕ) → (n + 1) * 10 ^ k ≤ 10 ^ 19 → n < 10 ^ 19
room_below n k room = let h = below_product (n + 1) k in omega (arith, h, room)

pub room_left : (n i j : ℕ) → j ≤ i → (n + 1) * 10 ^ i ≤ 10 ^ 19 → (n + 1) * 10 ^ j ≤ 10 ^ 19
room_left n i j less room =
    let low : 10 ^ j ≤ 10 ^ i = pow-le-pow_right {n = 10} (omega arith) less in
    let both : (n + 1) * 10 ^ j ≤ (n + 1) * 10 ^ i = mul-le (n + 1) (10 ^ j) (n + 1) (10 ^ i) (omega arith) low in
    omega (arith, both, room)

-- one digit more
pub room_after : (n d c : ℕ) (t z : Text) → t ≡ c ∷ z → d < 10 → (n + 1) * 10 ^ length t ≤ 10 ^ 19 → (n * 10 + d + 1) * 10 ^ length z ≤ 10 ^ 19
room_after n d c t z is small room =
    let p : ℕ = 10 ^ length z in
    let more : 10 ^ length t ≡ p * 10 = ap (λ x. 10 ^ length x) is ∙ pow-suc 10 (length z) in
    let low : (n * 10 + d + 1) * p ≤ ((n + 1) * 10) * p = mul-le (n * 10 + d + 1) p ((n + 1) * 10) p (omega arith) (omega arith) in
    let whole : (n + 1) * 10 ^ length t ≡ (n + 1) * (p * 10) = ap (λ x. (n + 1) * x) more in
    let same : ((n + 1) * 10) * p ≡ (n + 1) * (p * 10) = omega arith in
    omega (arith, low, whole, same, room)

pub room_first : (n c : ℕ) (t z : Text) → t ≡ c ∷ z → (n + 1) * 10 ^ length t ≤ 10 ^ 19 → n * 10 + 9 < 10 ^ 19
room_first n c t z is room = room_below (n * 10 + 9) (length z) (room_after n 9 c t z is (omega arith) room)

pub read_digit : (n d c : ℕ) (t z : Text) → t ≡ c ∷ z → is_ascii_digit c ≡ true → d ≡ digit_value c
    → (digits_value_after 10 (n * 10 + d) (digit_run z) ≡ digits_value_after 10 n (digit_run t)) × (past_run z ≡ past_run t)
read_digit n d c t z is digit value = rw (is, digit_run_digit c z digit, past_run_digit c z digit, value) (refl, refl)

-- ---- the number with the point in it

-- the digits that don't end in 0, and their zeros, are those of the number
normal : (n : ℕ) → n < 10 ^ 20 → (n / 10 ^ tens 20 n * 10 ^ tens 20 n ≡ n) × ((n / 10 ^ tens 20 n) % 10 ≡ 0 → n / 10 ^ tens 20 n ≡ 0)
normal zero less = (refl, λ e. refl)
normal (suc k) less =
    let n : ℕ = suc k in
    let parts = zeroless 20 n (omega arith) less in
    let s : Splits 20 n parts.digits parts.zeros = splits 20 n parts.digits parts.zeros parts.is parts.ends less in
    (ap (λ c. c * 10 ^ tens 20 n) s.digits ∙ ap (λ z. parts.digits * 10 ^ z) s.zeros ∙ parts.is, λ e. absurd (parts.ends (ap (λ c. c % 10) (sym s.digits) ∙ e)))

-- digits, a point, and further digits or none
pub record WithPoint (t f : Text) : Type 0 where
  pub is : t ≡ digit_run t ++ (46 ∷ f)
  pub some : 0 < length (digit_run t)
  pub digits : digit_run f ≡ f

point_after : (t : Text) → front t ≡ 46 → t ≡ 46 ∷ drop 1 t
point_after [] point = absurd (omega arith)
point_after (c ∷ cs) point = ap (λ b. b ∷ cs) point

runs : (t : Text) → t ≡ digit_run t ++ past_run t
runs t = sym (take-append-drop (prefix_len is_ascii_digit t) t)

pub with_point : (t after f rest : Text) → after ≡ past_run t → length after ≢ length t → front after ≡ 46 → f ≡ drop 1 after → rest ≡ past_run f → length rest ≡ 0
    → WithPoint t f
with_point t after f rest ran some point cut over end =
    let both : length t ≡ length (digit_run t) + length after = ap length (runs t) ∙ length-append (digit_run t) (past_run t) ∙ ap (λ u. length (digit_run t) + length u) (sym ran) in
    record {
      is = runs t ∙ ap (λ u. digit_run t ++ u) (sym ran ∙ point_after after point ∙ ap (λ u. 46 ∷ u) (sym cut));
      some = omega (arith, both, some);
      digits = sym (runs f ∙ ap (λ u. digit_run f ++ u) (sym over ∙ nil_from_length rest end) ∙ append-nil (digit_run f));
    }

pub short_decimal : (t f : Text) (whole n : ℕ) (d : Exact) → WithPoint t f → whole ≡ digits_value_after 10 0 (digit_run t) → n ≡ digits_value_after 10 whole (digit_run f) → n < 10 ^ 20
    → Some d ≡ from_digits false (n / 10 ^ tens 20 n) (tens 20 n) (length f) → read_number t ≡ Ok (number.Finite d)
short_decimal t f whole n d point first last less placed =
    let w : Text = digit_run t in
    let c : ℕ = n / 10 ^ tens 20 n in
    let z : ℕ = tens 20 n in
    let before : AllDigits 10 w = run_digits t in
    let after : AllDigits 10 f = subst (AllDigits 10) point.digits (run_digits f) in
    let own = normal n less in
    let value : n ≡ digits_value 10 (w ++ f) =
    last ∙ ap (digits_value_after 10 whole) point.digits ∙ ap (λ v. digits_value_after 10 v f) first ∙ sym (value_append 10 0 w f) in
    let low : c ≤ n = div-le_self n (10 ^ z) in
    let plain : AllPlain (w ++ (46 ∷ f)) = plain_append w (46 ∷ f) (plain_digits w before) (refl, plain_digits f after) in
    let up : z + 0 ≡ z = omega arith in
    ap read_number point.is
    ∙ number_signed false (w ++ (46 ∷ f)) (plain_numeral w f) (front_digit w (46 ∷ f) point.some before) plain (not_octal_point false w f) (reading_point w f point.some before after)
    ∙ finite_short false (plain_numeral w f) c z before after (own.0 ∙ value) (omega (arith, low, less)) own.1
    ∙ ap (λ k. ok_or (option_map number.Finite (from_digits false c k (length f))) fault.OutOfRange) up
    ∙ ap (λ p. ok_or (option_map number.Finite p) fault.OutOfRange) (sym placed)
