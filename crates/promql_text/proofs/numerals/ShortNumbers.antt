-- The number of a text of digits that doesn't begin with 0, and the seconds of a duration.
use Rattle.std.proofs.Common.{◌≡◌, ◌≢◌, ℕ, zero, suc, ◌+◌, ◌-◌, ◌*◌, ◌/◌, ◌%◌, ◌^◌, ◌<◌, ◌≤◌, true, false, [], ◌∷◌, length, refl, sym, ap, ◌∙◌, subst, Result, Ok, Err, Option, ⊎_elim, arith, append-nil}
use Rattle.std.specs.Prelude.{IfSome}
use Rattle.std.specs.Result.{result_ok}
use Rattle.std.specs.Char.{digit_value, is_ascii_digit}
use Rattle.std.specs.Str.Parse.{AllDigits, digits_value, IsNumeral, ParsesUnsigned, without_leading_plus}
use Rattle.std.proofs.lemmas.Bool.Decides.{nat_tests}
use Rattle.std.proofs.lemmas.Str.Parse.{digit_from_value, without_leading_plus_none}
use Rattle.std.proofs.Math.Nat.{pow-suc}
use Rattle.std.proofs.lemmas.Bool.{cases_lt}
use Rattle.promql_text.specs.Texts.{Text}
use Rattle.std.specs.Str.{chars}
use Rattle.promql_text.specs.DecimalForm.{decimal_form, front, numeral, reading}
use Rattle.promql_text.specs.NumberForms.{HasValue}
use Rattle.promql_text.specs.NumberText.{finite, number_of, read_number}
use Rattle.promql_text.specs.Numbers.{Exact, IsExact, exact_zero, seconds_of, whole}
use Rattle.promql_text.specs.declared.number.Number.TheVariants as number
use Rattle.promql_text.proofs.numbers.Exacts.{exact_zero_is, seconds_value, whole_is, whole_value, with_places_is}
use Rattle.promql_text.proofs.numerals.Plain.{plain_digits}
use Rattle.promql_text.proofs.numbers.ReadsBack.{finite_is, not_octal, number_signed}
use Rattle.promql_text.proofs.numerals.Runs.{digit_value_below, front_digit}
use Rattle.promql_text.proofs.numbers.Tens.{times_both, times_one, times_ten, value_after_ge}
use Rattle.promql_text.proofs.numerals.TextForms.{plain_numeral, reading_digits}

-- a number above zero is a number that doesn't end in 0, with zeros after it
pub record Zeroless (n : ℕ) : Type 0 where
  pub digits : ℕ
  pub zeros : ℕ
  pub is : digits * 10 ^ zeros ≡ n
  pub ends : digits % 10 ≢ 0

pub zeroless : (most n : ℕ) → 0 < n → n < 10 ^ most → Zeroless n
zeroless zero n some less = absurd (omega arith)
zeroless (suc most) n some less =
    ⊎_elim
    (λ (ends : 0 < n % 10). record { digits = n; zeros = 0; is = times_one n; ends = λ e. absurd (omega arith) })
    (λ (tens : n % 10 ≤ 0).
    let p = pow-suc 10 most in
    let front = zeroless most (n / 10) (omega arith) (omega (arith, p)) in
    record {
      digits = front.digits;
      zeros = front.zeros + 1;
      is = times_ten front.digits front.zeros ∙ (let e : front.digits * 10 ^ front.zeros * 10 ≡ n = omega (arith, front.is) in e);
      ends = front.ends;
    })
    (cases_lt 0 (n % 10))

digit_above : (c : ℕ) → 48 < c → digit_value c < 10 → 0 < digit_value c
digit_above c leads below = let h = digit_from_value c below in grind (arith, nat_tests)

value_some : (t : Text) → 0 < length t → 48 < front t → AllDigits 10 t → 0 < digits_value 10 t
value_some [] some leads digits = absurd (omega arith)
value_some (c ∷ cs) some leads digits =
    let above = digit_above c leads digits.0 in
    let more = value_after_ge cs (0 + digit_value c) in omega (arith, more)

pub short_number : (t : Text) → 0 < length t → 48 < front t → AllDigits 10 t → digits_value 10 t < 2 ^ 64
    → read_number t ≡ Ok (number.Finite (whole false (digits_value 10 t)))
short_number t filled leads digits less =
    let n : ℕ = digits_value 10 t in
    let some : 0 < n = value_some t filled leads digits in
    let parts = zeroless 20 n some (omega arith) in
    let above : 0 < parts.digits = (let ends = parts.ends in omega (arith, ends)) in
    let d : Exact = record { is_negative = false; digits = parts.digits; zeros = parts.zeros; places = 0 } in
    let e : IsExact d = whole_is false parts.digits parts.zeros n parts.is above parts.ends less in
    let first : is_ascii_digit (front t) ≡ true = ap (λ z. is_ascii_digit (front z)) (sym (append-nil t)) ∙ front_digit t [] filled digits in
    number_signed false t (plain_numeral t []) first (plain_digits t digits) (not_octal false t first leads) (reading_digits t filled digits)
    ∙ finite_is d t [] e digits tt (ap (digits_value 10) (append-nil t) ∙ sym parts.is) refl
    ∙ ap (λ x. Ok (number.Finite x)) (whole_value false parts.digits parts.zeros n parts.is above parts.ends less)

-- what `parse` reads of a text whose first byte is above `0` is its number
pub parsed_number : {E : Type 0} (t : Text) (r : Result ℕ E) (n : ℕ) → 48 < front t → ParsesUnsigned 64 10 t r → r ≡ Ok n
    → read_number t ≡ Ok (number.Finite (whole false n))
parsed_number {E = E} t r n leads parses is =
    let plain = without_leading_plus_none t (λ e. absurd (omega arith)) in
    let P : Text → Type 0 = λ u. (IsNumeral 10 u × (digits_value 10 u < 2 ^ 64)) × (n ≡ digits_value 10 u) in
    let read : P (without_leading_plus t) = subst (λ (x : Result ℕ E). ParsesUnsigned 64 10 t x) is parses in
    let own : P t = subst P plain read in
    short_number t own.0.0.0 leads own.0.0.1 own.0.1 ∙ ap (λ m. Ok (number.Finite (whole false m))) (sym own.1)

pub parsed_some : {E : Type 0} (t u : Text) (r : Result ℕ E) (o : Option ℕ) → u ≡ t → 48 < front u → ParsesUnsigned 64 10 t r → o ≡ result_ok r
    → IfSome o (λ n. read_number t ≡ Ok (number.Finite (whole false n)))
parsed_some {E = E} t u r o same leads parses is = subst (λ (x : Option ℕ). IfSome x (λ n. read_number t ≡ Ok (number.Finite (whole false n)))) (sym is) (by_result r parses)
  where
    by_result : (x : Result ℕ E) → ParsesUnsigned 64 10 t x → IfSome (result_ok x) (λ n. read_number t ≡ Ok (number.Finite (whole false n)))
    by_result (Ok n) read = parsed_number {E = E} t (Ok n) n (subst (λ w. 48 < front w) same leads) read refl
    by_result (Err e) read = tt

-- `0` is read as 0
zero_read : read_number (48 ∷ []) ≡ Ok (number.Finite exact_zero)
unfolding chars number_of decimal_form reading numeral finite
zero_read = refl

-- a digit alone is read as its value
pub digit_read : (c n : ℕ) → is_ascii_digit c ≡ true → n ≡ digit_value c → read_number (c ∷ []) ≡ Ok (number.Finite (whole false n))
digit_read c n digit is =
    let below : digit_value c < 10 = digit_value_below c digit in
    ⊎_elim
    (λ (leads : 48 < c).
    let value : digits_value 10 (c ∷ []) ≡ n = omega (arith, is) in
    short_number (c ∷ []) (omega arith) leads (below, tt) (omega arith) ∙ ap (λ m. Ok (number.Finite (whole false m))) value)
    (λ (low : c ≤ 48).
    let zero_digit : c ≡ 48 = (let h = digit_from_value c below in omega (arith, h)) in
    let none : n ≡ 0 = is ∙ ap digit_value zero_digit in
    ap (λ b. read_number (b ∷ [])) zero_digit ∙ zero_read ∙ ap (λ m. Ok (number.Finite (whole false m))) (sym none))
    (cases_lt 48 c)

-- the seconds of so many nanoseconds have their value
pub seconds_exact : (n : ℕ) → n < 2 ^ 64 * 1_000_000_000 → HasValue false n 0 9 (seconds_of n)
seconds_exact zero less = (exact_zero_is, (λ _. refl), refl)
seconds_exact (suc k) less =
    let n : ℕ = suc k in
    let parts = zeroless 29 n (omega arith) (omega arith) in
    let a : ℕ = parts.digits in
    let z : ℕ = parts.zeros in
    let above : 0 < a = (let ends = parts.ends in omega (arith, ends)) in
    let P : Exact → Type 0 = λ d. HasValue false n 0 9 d in
    let exact : a * 10 ^ ((z - 9) + 9) ≡ n * 10 ^ (9 - z) =
    ⊎_elim
    (λ (many : 9 < z).
    let up : (z - 9) + 9 ≡ z = omega arith in
    let down : 9 - z ≡ 0 = omega arith in
    ap (λ k. a * 10 ^ k) up ∙ parts.is ∙ sym (ap (λ k. n * 10 ^ k) down ∙ times_one n))
    (λ (few : z ≤ 9).
    let up : (z - 9) + 9 ≡ z + (9 - z) = omega arith in
    ap (λ k. a * 10 ^ k) up ∙ times_both a z (9 - z) ∙ ap (λ m. m * 10 ^ (9 - z)) parts.is)
    (cases_lt 9 z) in
    let same : 9 - z ≡ 0 + (9 - z) = omega arith in
    subst P (seconds_value a z n parts.is above parts.ends less)
    (with_places_is a z n 9 parts.is above parts.ends less (omega arith), (λ _. refl), exact ∙ ap (λ k. n * 10 ^ k) same)
