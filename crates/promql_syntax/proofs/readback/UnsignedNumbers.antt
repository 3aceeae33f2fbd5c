-- The number of a text that begins with no sign is not below zero.
use Rattle.std.proofs.Common.{◌≡◌, ℕ, zero, suc, ◌+◌, ◌<◌, refl, sym, ◌∙◌, ap, subst, arith, true, false, cond, not, ◌&&◌, ◌||◌, Option, Some, None, Ok, [], ◌∷◌, ◌++◌, length, drop}
use Rattle.std.specs.Prelude.{◌==◌, ◌/◌, ◌^◌, option_map, nat_le, nat_lt}
use Rattle.std.specs.Char.{is_not_whitespace}
use Rattle.std.specs.List.{filter, list_all, list_any}
use Rattle.std.specs.Option.{ok_or}
use Rattle.std.specs.Str.{IsAscii, chars}
use Rattle.std.specs.Str.Parse.{digits_value}
use Rattle.std.proofs.lemmas.Bool.{cond_both}
use Rattle.std.proofs.lemmas.Grind.{common_steps}
use Rattle.std.proofs.lemmas.Str.{IsUtf8-from_ascii, chars-IsAscii, chars-append}
use Rattle.promql_text.specs.DecimalForm.{front, without_sign, is_minus, Numeral, Reading, NotANumber, Infinite, reading, decimal_form, digits_number, places, exponent_size}
use Rattle.promql_text.specs.DecimalForm as form
use Rattle.promql_text.specs.NumberText.{at_place, finite, hexadecimal, is_digit_below, is_octal, is_x, without_whitespace, number_of, of_form, radix_number, read_number, apply_sign, zeros_of}
use Rattle.promql_text.specs.Numbers.{Exact, exact_zero, is_in_range, from_digits, exact_quotient, tens, whole}
use Rattle.promql_text.specs.Texts.{Text}
use Rattle.promql_text.specs.declared.number.Number.TheVariants as number
use Rattle.promql_text.specs.declared.number.NumberFault.TheVariants as fault
use Rattle.promql_token.specs.Classes.{is_in}
use Rattle.promql_token.specs.TokenSpelling.{begins_unsigned}
use Rattle.promql_token.specs.declared.class.Class.TheVariants as class
use Rattle.promql_syntax.proofs.readback.Derive.{IsUnsigned}

-- ---- the first character

is_low : (b : ℕ) → (is_in class.Word b || (b == 46)) ≡ true → b < 128
is_low b h = grind (arith, common_steps)

is_no_space : (b : ℕ) → (is_in class.Word b || (b == 46)) ≡ true → is_not_whitespace b ≡ true
is_no_space b h = grind (arith, common_steps)

is_no_minus : (b : ℕ) → (is_in class.Word b || (b == 46)) ≡ true → (b == 45) ≡ false
is_no_minus b h = grind (arith, common_steps)

one_ascii : (b : ℕ) → b < 128 → IsAscii (b ∷ [])
one_ascii b low zero = low
one_ascii b low (suc i) = omega arith

no_minus : (w : Text) → begins_unsigned w ≡ true → is_minus (without_whitespace w) ≡ false
no_minus [] h = absurd (cc)
no_minus (b ∷ w) h =
    let ascii = one_ascii b (is_low b h) in
    let is : chars (b ∷ w) ≡ b ∷ chars w = chars-append (b ∷ []) w (IsUtf8-from_ascii (b ∷ []) ascii) ∙ ap (λ l. l ++ chars w) (chars-IsAscii (b ∷ []) ascii) in
    ap (λ l. is_minus (filter is_not_whitespace l)) is
    ∙ ap (λ c. is_minus (cond c (b ∷ filter is_not_whitespace (chars w)) (filter is_not_whitespace (chars w)))) (is_no_space b h)
    ∙ is_no_minus b h

-- ---- the number

abbrev NoneBelow : Option Exact → Type 0
NoneBelow None = Unit {0}
NoneBelow (Some d) = d.is_negative ≡ false

whole_unsigned : (n : ℕ) → IsUnsigned (Ok (number.Finite (whole false n)))
whole_unsigned n = cond_both (n == 0) exact_zero (exact_quotient false (n / 10 ^ tens 20 n) (tens 20 n) 0) (λ (d : Exact). d.is_negative ≡ false) (λ _. refl) (λ _. refl)

radix_unsigned : (radix : ℕ) (s : Text) → IsUnsigned (radix_number radix false s)
unfolding radix_number
radix_unsigned radix s =
    cond_both (not (length s == 0) && list_all (is_digit_below radix) s) _ _ IsUnsigned
    (λ _. cond_both (nat_lt (digits_value radix s) (2 ^ 63)) _ _ IsUnsigned (λ _. whole_unsigned (digits_value radix s)) (λ _. tt)) (λ _. tt)

hexadecimal_unsigned : (s : Text) → is_minus s ≡ false → IsUnsigned (hexadecimal s)
unfolding hexadecimal
hexadecimal_unsigned s none =
    let body = without_sign s in
    cond_both ((front body == 48) && is_x (front (drop 1 body))) _ _ IsUnsigned (λ _. subst (λ b. IsUnsigned (radix_number 16 b (drop 2 body))) (sym none) (radix_unsigned 16 (drop 2 body))) (λ _. tt)

placed_unsigned : (c up down : ℕ) → NoneBelow (from_digits false c up down)
placed_unsigned c up down =
    cond_both (c == 0) _ _ NoneBelow (λ _. refl) (λ _. cond_both (is_in_range c up down) _ _ NoneBelow (λ _. refl) (λ _. tt))

at_place_unsigned : (c z : ℕ) (n : Numeral) → NoneBelow (at_place false c z n)
at_place_unsigned c z n = cond_both n.is_down _ _ NoneBelow (λ _. placed_unsigned c z (places n + exponent_size n)) (λ _. placed_unsigned c (z + exponent_size n) (places n))

as_number : (d : Option Exact) → NoneBelow d → IsUnsigned (ok_or (option_map number.Finite d) fault.OutOfRange)
as_number None h = tt
as_number (Some d) h = h

finite_unsigned : (n : Numeral) → IsUnsigned (finite false n)
unfolding finite
finite_unsigned n =
    let z = zeros_of n in
    let c = digits_number n / 10 ^ z in
    cond_both (nat_le (10 ^ 38) c) _ _ IsUnsigned (λ _. tt) (λ _. as_number (at_place false c z n) (at_place_unsigned c z n))

signed_unsigned : (r : Reading) → IsUnsigned (apply_sign false r)
signed_unsigned NotANumber = refl
signed_unsigned Infinite = refl
signed_unsigned (form.Finite n) = finite_unsigned n

form_unsigned : (s : Text) → is_minus s ≡ false → IsUnsigned (of_form (decimal_form s))
unfolding decimal_form
form_unsigned s none = by_reading (reading (without_sign s))
  where
    by_reading : (o : Option Reading) → IsUnsigned (of_form (option_map (λ r. record { is_negative = is_minus s; reading = r }) o))
    by_reading None = tt
    by_reading (Some r) = subst (λ b. IsUnsigned (apply_sign b r)) (sym none) (signed_unsigned r)

number_unsigned : (s : Text) → is_minus s ≡ false → IsUnsigned (number_of s)
unfolding number_of
number_unsigned s none =
    cond_both (list_any is_x s) _ _ IsUnsigned (λ _. hexadecimal_unsigned s none) (λ _.
    cond_both (is_octal s) _ _ IsUnsigned (λ _. subst (λ b. IsUnsigned (radix_number 8 b (drop 1 (without_sign s)))) (sym none) (radix_unsigned 8 (drop 1 (without_sign s)))) (λ _. form_unsigned s none))

pub read_unsigned : (w : Text) → begins_unsigned w ≡ true → IsUnsigned (read_number w)
read_unsigned w h = number_unsigned (without_whitespace w) (no_minus w h)
