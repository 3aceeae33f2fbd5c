-- A text without a `0` is no number that is zero.
use Rattle.std.proofs.Common.{◌≡◌, ℕ, zero, suc, ◌+◌, ◌*◌, ◌/◌, ◌%◌, ◌^◌, ◌<◌, refl, sym, ◌∙◌, ap, Bool, true, false, true≢false, cond, ◌&&◌, ◌||◌, [], ◌∷◌, ◌++◌, append-nil, take, drop, length, arith, Some}
use Rattle.std.specs.Prelude.{◌==◌, Option, Result, codes, not, nat_le, option_map}
use Rattle.std.specs.Char.{digit_value, is_ascii_digit, is_not_whitespace}
use Rattle.std.specs.List.{filter, list_any, prefix_len}
use Rattle.std.specs.Option.{ok_or}
use Rattle.std.specs.Str.{IsAscii, chars}
use Rattle.std.specs.Str.Parse.{digits_value, digits_value_after}
use Rattle.std.proofs.Math.Nat.{div-div-eq-div-mul, div-one, pow-succ'}
use Rattle.std.proofs.lemmas.Bool.{and_parts, cond_both, eqb-true}
use Rattle.std.proofs.lemmas.Bool.Decides.{nat_tests}
use Rattle.std.proofs.lemmas.Str.{chars-IsAscii}
use Rattle.promql_text.specs.DecimalForm.{Numeral, Reading, NotANumber, Infinite, Signed, decimal_form, digit_run, digits_number, ends_well, front, is_minus, is_word, numeral, past_point, past_run, reading, without_sign}
use Rattle.promql_text.specs.DecimalForm as form
use Rattle.promql_text.specs.NumberText.{finite, hexadecimal, is_octal, is_past_octal, is_x, number_of, of_form, read_number, without_whitespace, zeros_of}
use Rattle.promql_text.specs.Numbers.{from_digits, is_in_range, tens}
use Rattle.promql_text.specs.Texts.{Text, code}
use Rattle.promql_text.specs.declared.number.Number.{Number}
use Rattle.promql_text.specs.declared.number.Number.TheVariants as number
use Rattle.promql_text.specs.declared.number.NumberFault.{NumberFault}
use Rattle.promql_text.specs.declared.number.NumberFault.TheVariants as fault
use Rattle.promql_span.specs.Differences.{reads_zero}
use Rattle.promql_span.specs.QueryMarks.{has}
use Rattle.promql_span.proofs.OperatorTokens.{or_left, or_right}

abbrev has_naught : Text → Bool
has_naught = has (code "0")

-- ---- what is left of a text without one has none

without_dropped : (n : ℕ) (s : Text) → has_naught s ≡ false → has_naught (drop n s) ≡ false
without_dropped zero s miss = miss
without_dropped (suc n) [] miss = miss
without_dropped (suc n) (c ∷ s) miss = without_dropped n s (or_right (c == code "0") (has_naught s) miss)

without_filtered : (p : ℕ → Bool) (s : Text) → has_naught s ≡ false → has_naught (filter p s) ≡ false
without_filtered p [] miss = miss
without_filtered p (c ∷ s) miss =
    let rest = without_filtered p s (or_right (c == code "0") (has_naught s) miss) in
    cond_both (p c) _ _ (λ z. has_naught z ≡ false) (λ _. ap (λ a. a || has_naught (filter p s)) (or_left (c == code "0") (has_naught s) miss) ∙ rest) (λ _. rest)

without_its_sign : (s : Text) → has_naught s ≡ false → has_naught (without_sign s) ≡ false
without_its_sign s miss = cond_both (front s == 43 || front s == 45) _ _ (λ z. has_naught z ≡ false) (λ _. without_dropped 1 s miss) (λ _. miss)

no_front : (s : Text) → has_naught s ≡ false → (front s == code "0") ≡ false
no_front [] miss = refl
no_front (c ∷ s) miss = or_left (c == code "0") (has_naught s) miss

-- ---- digits of which the first is above zero

digits_keep : (n : ℕ) (ds : Text) → 0 < n → 0 < digits_value_after 10 n ds
digits_keep n [] above = above
digits_keep n (d ∷ ds) above = digits_keep (n * 10 + digit_value d) ds (omega (arith, above))

digit_above : (c : ℕ) → is_ascii_digit c ≡ true → (c == code "0") ≡ false → 0 < digit_value c
digit_above c digit other = grind (arith, nat_tests)

value_above : (c : ℕ) (ds : Text) → is_ascii_digit c ≡ true → (c == code "0") ≡ false → 0 < digits_value 10 (c ∷ ds)
value_above c ds digit other = let above = digit_above c digit other in digits_keep (0 * 10 + digit_value c) ds (omega (arith, above))

run_with_digit : (c : ℕ) (s : Text) → is_ascii_digit c ≡ true → digit_run (c ∷ s) ≡ c ∷ digit_run s
run_with_digit c s digit = ap (λ b. take (cond b (1 + prefix_len is_ascii_digit s) 0) (c ∷ s)) digit ∙ ap (λ n. take n (c ∷ s)) (one_more (prefix_len is_ascii_digit s))
  where
    one_more : (n : ℕ) → 1 + n ≡ suc n
    one_more n = grind arith

no_run : (s : Text) → is_ascii_digit (front s) ≡ false → digit_run s ≡ []
no_run [] other = refl
no_run (c ∷ s) other = ap (λ b. take (cond b (1 + prefix_len is_ascii_digit s) 0) (c ∷ s)) other

first_digit : (s more : Text) → is_ascii_digit (front s) ≡ true → has_naught s ≡ false → 0 < digits_value 10 (digit_run s ++ more)
first_digit [] more digit miss = absurd (true≢false (sym digit))
first_digit (c ∷ s) more digit miss = rw (run_with_digit c s digit) (value_above c (digit_run s ++ more) digit (or_left (c == code "0") (has_naught s) miss))

past_run_without : (s : Text) → has_naught s ≡ false → has_naught (past_run s) ≡ false
past_run_without s miss = without_dropped (prefix_len is_ascii_digit s) s miss

past_point_without : (s : Text) → has_naught s ≡ false → has_naught (past_point s) ≡ false
past_point_without s miss = cond_both (front s == 46) _ _ (λ z. has_naught z ≡ false) (λ _. without_dropped 1 s miss) (λ _. miss)

digits_above : (s t : Text) → has_naught s ≡ false → has_naught t ≡ false → is_ascii_digit (front s) || is_ascii_digit (front t) ≡ true
    → 0 < digits_value 10 (digit_run s ++ digit_run t)
digits_above s t miss other is = go (is_ascii_digit (front s)) refl is
  where
    second : 0 < digits_value 10 (digit_run t ++ []) → 0 < digits_value 10 (digit_run t)
    second above = rw (← append-nil (digit_run t)) above

    go : (b : Bool) → is_ascii_digit (front s) ≡ b → b || is_ascii_digit (front t) ≡ true → 0 < digits_value 10 (digit_run s ++ digit_run t)
    go true digit is = first_digit s (digit_run t) digit miss
    go false none is = rw (no_run s none) (second (first_digit t [] is other))

-- ---- and the zeros at its end are left out

tens_keep : (most n : ℕ) → 0 < n → 0 < n / 10 ^ tens most n
tens_keep zero n above = rw (div-one n) above
tens_keep (suc most) n above = go (n % 10 == 0) refl (tens_keep most (n / 10))
  where
    go : (b : Bool) → (n % 10 == 0) ≡ b → (0 < n / 10 → 0 < n / 10 / 10 ^ tens most (n / 10)) → 0 < n / 10 ^ cond b (suc (tens most (n / 10))) 0
    go true ends rest =
        rw (pow-succ' 10 (tens most (n / 10)), ← div-div-eq-div-mul n 10 (10 ^ tens most (n / 10))) (rest (omega (arith, above, eqb-true (n % 10) 0 ends)))
    go false ends rest = rw (div-one n) above

-- ---- no such number is zero

abbrev IsOther : Result Number NumberFault → Type 0
IsOther r = reads_zero r ≡ false

not_naught : (c : ℕ) → 0 < c → (c == 0) ≡ false
not_naught c above = grind (arith, nat_tests)

placed : (neg : Bool) (c up down : ℕ) → (c == 0) ≡ false → IsOther (ok_or (option_map number.Finite (from_digits neg c up down)) fault.OutOfRange)
placed neg c up down other =
    rw other (cond_both (is_in_range c up down) _ _ (λ o. IsOther (ok_or (option_map number.Finite o) fault.OutOfRange)) (λ _. other) (λ _. refl))

of_numeral : (neg : Bool) (n : Numeral) → 0 < digits_number n → IsOther (finite neg n)
unfolding finite
of_numeral neg n above =
    let c = digits_number n / 10 ^ zeros_of n in
    let z = zeros_of n in
    let other = not_naught c (tens_keep (length n.whole + length n.fraction) (digits_number n) above) in
    cond_both (nat_le (10 ^ 38) c) _ _ IsOther (λ _. refl)
    (λ _. cond_both n.is_down _ _ (λ o. IsOther (ok_or (option_map number.Finite o) fault.OutOfRange)) (λ _. placed neg c z (length n.fraction + digits_value 10 n.exponent) other)
    (λ _. placed neg c (z + digits_value 10 n.exponent) (length n.fraction) other))

abbrev read_as : Bool → Option Reading → Result Number NumberFault
read_as neg o = of_form (option_map (λ r. record { is_negative = neg; reading = r }) o)

of_reading : (neg : Bool) (s : Text) → has_naught s ≡ false → IsOther (read_as neg (reading s))
unfolding reading numeral
of_reading neg s miss =
    cond_both (is_word s (codes "inf") || is_word s (codes "infinity")) _ _ (λ o. IsOther (read_as neg o)) (λ _. infinite neg)
    (λ _. cond_both (is_word s (codes "nan")) _ _ (λ o. IsOther (read_as neg o)) (λ _. refl)
    (λ _. cond_both ((is_ascii_digit (front s) || is_ascii_digit (front t)) && ends_well end) _ _ (λ o. IsOther (read_as neg (option_map form.Finite o)))
    (λ is. of_numeral neg _ (digits_above s t miss (past_point_without (past_run s) (past_run_without s miss)) (and_parts _ (ends_well end) is).0)) (λ _. refl)))
  where
    t : Text
    t = past_point (past_run s)

    end : Text
    end = past_run t

    infinite : (neg : Bool) → IsOther (read_as neg (Some Infinite))
    infinite true = refl
    infinite false = refl

of_text : (s : Text) → has_naught s ≡ false → IsOther (number_of s)
unfolding number_of hexadecimal decimal_form
of_text s miss =
    let rest = without_its_sign s miss in
    let other = no_front (without_sign s) rest in
    cond_both (list_any is_x s) _ _ IsOther (λ _. rw other refl)
    (λ _. cond_both (is_octal s) _ _ IsOther (λ is. absurd (true≢false (sym is ∙ ap (λ a. a && (not (length (drop 1 (without_sign s)) == 0) && not (list_any is_past_octal s))) other)))
    (λ _. of_reading (is_minus s) (without_sign s) rest))

-- a text of ASCII
pub no_zero_without_naught : (w : Text) → IsAscii w → has_naught w ≡ false → reads_zero (read_number w) ≡ false
no_zero_without_naught w ascii miss = of_text (without_whitespace w) (without_filtered is_not_whitespace (chars w) (ap has_naught (chars-IsAscii w ascii) ∙ miss))
