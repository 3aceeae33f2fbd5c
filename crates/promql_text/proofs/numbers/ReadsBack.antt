-- Reading the text of a number.
use Rattle.std.proofs.Common.{◌≡◌, ℕ, zero, suc, ◌+◌, ◌-◌, ◌*◌, ◌/◌, ◌%◌, ◌^◌, ◌<◌, ◌≤◌, Bool, true, false, not, cond, ◌&&◌, [], ◌∷◌, ◌++◌, length, drop, replicate, arith, ap, ◌∙◌, sym, refl, subst, ⊎_elim, append-nil, Some, None, Result, Ok, length-append}
use Rattle.std.specs.Option.{ok_or}
use Rattle.std.specs.Prelude.{option_map, ◌==◌}
use Rattle.std.specs.Char.{digit_value, is_ascii_digit}
use Rattle.std.specs.Fmt.{decimal, digits}
use Rattle.std.specs.List.{list_any}
use Rattle.std.specs.Str.{chars}
use Rattle.std.specs.Str.Parse.{AllDigits, digits_value, digits_value_after}
use Rattle.std.proofs.lemmas.Fmt.{decimal_is_IsNumeral_wide, decimal_by_steps_wide}
use Rattle.std.proofs.Math.Nat.{pow-suc, zero-mul, div-le_self, mod-le}
use Rattle.std.proofs.lemmas.Bool.{cases_lt, eq-eqb, ne_eqb}
use Rattle.std.proofs.lemmas.List.{length-replicate}
use Rattle.std.proofs.lemmas.Nat.{div-add-mod'}
use Rattle.promql_text.specs.Texts.{Text}
use Rattle.promql_text.specs.DecimalForm.{front, without_sign, is_minus, Numeral, numeral, reading, decimal_form}
use Rattle.promql_text.specs.DecimalForm as form
use Rattle.promql_text.specs.NumberText.{is_x, is_octal, is_past_octal, read_number, number_of, finite, of_form, hexadecimal, radix_number, number_text}
use Rattle.promql_text.specs.NumberDigits.{pad_zeros}
use Rattle.promql_text.specs.Numbers.{Exact, IsExact, exact_zero, from_digits, exact_quotient, is_in_range, digit_count}
use Rattle.promql_text.specs.Values.{IsNumber}
use Rattle.promql_text.specs.declared.number.Number.{Number}
use Rattle.promql_text.specs.declared.number.Number.TheVariants as number
use Rattle.promql_text.specs.declared.number.NumberFault.{NumberFault}
use Rattle.promql_text.specs.declared.number.NumberFault.TheVariants as fault
use Rattle.promql_text.proofs.numbers.Exacts.{in_range}
use Rattle.promql_text.proofs.numbers.Finites.{finite_short, all_digits_append}
use Rattle.promql_text.proofs.numerals.Points.{part_count}
use Rattle.promql_text.proofs.numbers.Tens.{times_one}
use Rattle.promql_text.proofs.numerals.Plain.{AllPlain, kept_plain, plain_holds_no_x, plain_append, plain_digits, plain_signed, point_signed}
use Rattle.promql_text.proofs.numerals.Radix.{value_append}
use Rattle.promql_text.proofs.numerals.Runs.{front_digit}
use Rattle.promql_text.proofs.numerals.TextForms.{with_sign, unsigned_is, minus_is, form_at, plain_numeral, reading_digits, reading_point}

-- ---- what digits write

pub value_split : (ds : Text) (v : ℕ) → digits_value_after 10 v ds ≡ v * 10 ^ length ds + digits_value 10 ds
value_split [] v = grind arith
value_split (c ∷ cs) v =
    let e = value_split cs (v * 10 + digit_value c) in
    let f = value_split cs (0 * 10 + digit_value c) in
    let p = pow-suc 10 (length cs) in
    let split : (v * 10 + digit_value c) * 10 ^ length cs ≡ v * (10 ^ length cs * 10) + (0 * 10 + digit_value c) * 10 ^ length cs = omega arith in
    e ∙ ap (λ n. n + digits_value 10 cs) (split ∙ ap (λ n. v * n + (0 * 10 + digit_value c) * 10 ^ length cs) (sym p)) ∙ (let g : v * 10 ^ suc (length cs) + (0 * 10 + digit_value c) * 10 ^ length cs + digits_value 10 cs ≡ v * 10 ^ suc (length cs) + ((0 * 10 + digit_value c) * 10 ^ length cs + digits_value 10 cs) = omega arith in g) ∙ ap (λ n. v * 10 ^ suc (length cs) + n) (sym f)

pub zeros_digits : (k : ℕ) → AllDigits 10 (replicate k 48)
zeros_digits zero = tt
zeros_digits (suc k) = (omega arith, zeros_digits k)

pub zeros_value : (k v : ℕ) → digits_value_after 10 v (replicate k 48) ≡ v * 10 ^ k
zeros_value zero v = grind arith
zeros_value (suc k) v =
    let e = zeros_value k (v * 10 + 0) in
    let p = pow-suc 10 k in
    let f : (v * 10 + 0) * 10 ^ k ≡ v * (10 ^ k * 10) = omega arith in
    e ∙ f ∙ ap (λ n. v * n) (sym p)

-- ---- the number of a text with a sign

number_at : (t : Text) → list_any is_x t ≡ false → is_octal t ≡ false → number_of t ≡ of_form (decimal_form t)
unfolding number_of
number_at t no_x decimal_text =
    let last : Result Number NumberFault = of_form (decimal_form t) in
    let octal : Result Number NumberFault = radix_number 8 (is_minus t) (drop 1 (without_sign t)) in
    ap (λ b. cond b (hexadecimal t) (cond (is_octal t) octal last)) no_x ∙ ap (λ b. cond b octal last) decimal_text

pub number_signed : (b : Bool) (t : Text) (n : Numeral) → is_ascii_digit (front t) ≡ true → AllPlain t → is_octal (with_sign b t) ≡ false → reading t ≡ Some (form.Finite n) → read_number (with_sign b t) ≡ finite b n
number_signed b t n digit plain decimal_text is =
    let all : AllPlain (with_sign b t) = plain_signed b t plain in
    ap number_of (kept_plain (with_sign b t) all)
    ∙ number_at (with_sign b t) (plain_holds_no_x (with_sign b t) all) decimal_text
    ∙ ap of_form (form_at (with_sign b t) t b (form.Finite n) (minus_is b t digit) (unsigned_is b t digit) is)

-- ---- a number at its own place

pub zero_is : (d : Exact) → IsExact d → d.digits ≡ 0 → exact_zero ≡ d
zero_is d e none = sym (let zero = e.one_zero none in rw (zero.0, zero.1, zero.2, none) refl)

abbrev at_zeros : Exact → ℕ → ℕ → Exact
at_zeros d z p = record { is_negative = d.is_negative; digits = d.digits; zeros = z; places = p }

scaled_is : (d : Exact) (up down : ℕ) → IsExact d → up ≡ d.zeros → down ≡ d.places → exact_quotient d.is_negative d.digits up down ≡ d
scaled_is d up down e ups downs =
    let z : up - down ≡ d.zeros = ⊎_elim (λ some. let n = e.one_side some in omega (arith, n)) (λ low. omega arith) (cases_lt 0 d.places) in
    let p : down - up ≡ d.places = ⊎_elim (λ some. let n = e.one_side some in omega (arith, n)) (λ low. omega arith) (cases_lt 0 d.places) in
    ap (λ k. at_zeros d k (down - up)) z ∙ ap (at_zeros d d.zeros) p

placed_is : (d : Exact) (up down : ℕ) → IsExact d → up ≡ d.zeros → down ≡ d.places → from_digits d.is_negative d.digits up down ≡ Some d
placed_is d up down e ups downs =
    ⊎_elim
    (λ some.
    let range : is_in_range d.digits up down ≡ true = in_range d.digits up down (omega (arith, e.below)) (omega (arith, e.above)) in
    ap (λ b. cond b (Some exact_zero) (cond (is_in_range d.digits up down) (Some (exact_quotient d.is_negative d.digits up down)) None)) (ne_eqb d.digits 0 (omega arith))
    ∙ ap (λ b. cond b (Some (exact_quotient d.is_negative d.digits up down)) None) range
    ∙ ap Some (scaled_is d up down e ups downs))
    (λ low.
    let none : d.digits ≡ 0 = omega arith in
    ap (λ b. cond b (Some exact_zero) (cond (is_in_range d.digits up down) (Some (exact_quotient d.is_negative d.digits up down)) None)) (eq-eqb d.digits 0 none)
    ∙ ap Some (zero_is d e none))
    (cases_lt 0 d.digits)

pub finite_is : (d : Exact) (w f : Text) → IsExact d → AllDigits 10 w → AllDigits 10 f → digits_value 10 (w ++ f) ≡ d.digits * 10 ^ d.zeros → length f ≡ d.places → finite d.is_negative (plain_numeral w f) ≡ Ok (number.Finite d)
finite_is d w f e whole fraction value places =
    finite_short d.is_negative (plain_numeral w f) d.digits d.zeros whole fraction (sym value) e.short e.ends
    ∙ ap (λ p. ok_or (option_map number.Finite p) fault.OutOfRange) (placed_is d (d.zeros + 0) (length f) e (omega arith) places)

-- ---- the digits of a number

decimal_digits : (n : ℕ) → n < 10 ^ 38 → (0 < length (decimal n)) × AllDigits 10 (decimal n) × (digits_value 10 (decimal n) ≡ n)
decimal_digits n short = let h = decimal_is_IsNumeral_wide n (omega arith) in (h.0.0, h.0.1, h.1)

abbrev Leads : ℕ → Text → Type 0
Leads n ds = (0 < length ds) × (0 < n → 48 < front ds)

leads_more : (n : ℕ) (ds : Text) (c : ℕ) → 10 ≤ n → Leads (n / 10) ds → Leads n (ds ++ (c ∷ []))
leads_more n [] c big l = absurd (omega (arith, l.0))
leads_more n (d ∷ ds) c big l = (omega arith, λ some. l.1 (omega arith))

decimal_leads : (n : ℕ) → n < 10 ^ 38 → 0 < n → 48 < front (decimal n)
decimal_leads n short some =
    let h : Leads n (decimal n) = decimal_by_steps_wide Leads (λ m one. (omega arith, λ more. omega arith)) (λ m ds big l. leads_more m ds (48 + m % 10) big l) n (omega arith) in
    h.1 some

-- ---- whole numbers, and numbers with a point

front_append : (xs ys : Text) → 0 < length xs → front (xs ++ ys) ≡ front xs
front_append [] ys some = absurd (omega arith)
front_append (x ∷ xs) ys some = refl

pub not_octal : (b : Bool) (t : Text) → is_ascii_digit (front t) ≡ true → 48 < front t → is_octal (with_sign b t) ≡ false
not_octal b t digit leads =
    ap (λ u. (front u == 48) && (not (length (drop 1 u) == 0) && not (list_any is_past_octal (with_sign b t)))) (unsigned_is b t digit)
    ∙ ap (λ x. x && (not (length (drop 1 t) == 0) && not (list_any is_past_octal (with_sign b t)))) (ne_eqb (front t) 48 (omega arith))

false_both : (x y : Bool) → (x && (y && false)) ≡ false
false_both true true = refl
false_both true false = refl
false_both false y = refl

pub not_octal_point : (b : Bool) (xs ys : Text) → is_octal (with_sign b (xs ++ (46 ∷ ys))) ≡ false
not_octal_point b xs ys =
    let s : Text = with_sign b (xs ++ (46 ∷ ys)) in
    ap (λ x. (front (without_sign s) == 48) && (not (length (drop 1 (without_sign s)) == 0) && not x)) (point_signed b xs ys)
    ∙ false_both (front (without_sign s) == 48) (not (length (drop 1 (without_sign s)) == 0))

whole_text : (d : Exact) → IsExact d → 0 < d.digits → d.places ≡ 0 → read_number (with_sign d.is_negative (decimal d.digits ++ replicate d.zeros 48)) ≡ Ok (number.Finite d)
whole_text d e some no_places =
    let own = decimal_digits d.digits e.short in
    let t : Text = decimal d.digits ++ replicate d.zeros 48 in
    let digits : AllDigits 10 t = all_digits_append (decimal d.digits) (replicate d.zeros 48) own.1 (zeros_digits d.zeros) in
    let filled : 0 < length t = (let h = length-append (decimal d.digits) (replicate d.zeros 48) in omega (arith, h, own.0)) in
    let first : is_ascii_digit (front t) ≡ true = front_digit (decimal d.digits) (replicate d.zeros 48) own.0 own.1 in
    let leads : 48 < front t = (let h = front_append (decimal d.digits) (replicate d.zeros 48) own.0 in let l = decimal_leads d.digits e.short some in omega (arith, h, l)) in
    let value : digits_value 10 (t ++ []) ≡ d.digits * 10 ^ d.zeros =
    ap (digits_value 10) (append-nil t) ∙ value_append 10 0 (decimal d.digits) (replicate d.zeros 48)
    ∙ ap (λ v. digits_value_after 10 v (replicate d.zeros 48)) own.2 ∙ zeros_value d.zeros d.digits in
    number_signed d.is_negative t (plain_numeral t []) first (plain_digits t digits) (not_octal d.is_negative t first leads) (reading_digits t filled digits)
    ∙ finite_is d t [] e digits tt value (sym no_places)

-- the digits after the point
padded_digits : (k n : ℕ) → n < 10 ^ 38 → AllDigits 10 (pad_zeros k n)
padded_digits k n short = all_digits_append (replicate (k - length (decimal n)) 48) (decimal n) (zeros_digits (k - length (decimal n))) (decimal_digits n short).1

padded_length : (k n : ℕ) → digit_count n ≤ k → length (pad_zeros k n) ≡ k
padded_length k n room =
    let h = length-append (replicate (k - length (decimal n)) 48) (decimal n) in
    let z = length-replicate {A = ℕ} (k - length (decimal n)) 48 in
    omega (arith, h, z, room)

padded_value : (k n : ℕ) → n < 10 ^ 38 → digits_value 10 (pad_zeros k n) ≡ n
padded_value k n short =
    let j : ℕ = k - length (decimal n) in
    value_append 10 0 (replicate j 48) (decimal n) ∙ ap (λ v. digits_value_after 10 v (decimal n)) (zeros_value j 0 ∙ zero-mul (10 ^ j)) ∙ (decimal_digits n short).2

point_value : (c k q r : ℕ) → q < 10 ^ 38 → r < 10 ^ 38 → digit_count r ≤ k → q * 10 ^ k + r ≡ c → digits_value 10 (decimal q ++ pad_zeros k r) ≡ c
point_value c k q r short few room is =
    value_append 10 0 (decimal q) (pad_zeros k r)
    ∙ ap (λ v. digits_value_after 10 v (pad_zeros k r)) (decimal_digits q short).2
    ∙ value_split (pad_zeros k r) q
    ∙ ap (λ l. q * 10 ^ l + digits_value 10 (pad_zeros k r)) (padded_length k r room)
    ∙ ap (λ v. q * 10 ^ k + v) (padded_value k r few) ∙ is

point_text : (d : Exact) → IsExact d → 0 < d.places → read_number (with_sign d.is_negative (decimal (d.digits / 10 ^ d.places) ++ (46 ∷ pad_zeros d.places (d.digits % 10 ^ d.places)))) ≡ Ok (number.Finite d)
point_text d e some =
    let q : ℕ = d.digits / 10 ^ d.places in
    let r : ℕ = d.digits % 10 ^ d.places in
    let f : Text = pad_zeros d.places r in
    let low : q < 10 ^ 38 = (let h = div-le_self d.digits (10 ^ d.places) in omega (arith, h, e.short)) in
    let few : r < 10 ^ 38 = (let h = mod-le d.digits (10 ^ d.places) in omega (arith, h, e.short)) in
    let own = decimal_digits q low in
    let room : digit_count r ≤ d.places = part_count d.digits d.places some e.short in
    let more : AllDigits 10 f = padded_digits d.places r few in
    let first : is_ascii_digit (front (decimal q ++ (46 ∷ f))) ≡ true = front_digit (decimal q) (46 ∷ f) own.0 own.1 in
    let plain : AllPlain (decimal q ++ (46 ∷ f)) = plain_append (decimal q) (46 ∷ f) (plain_digits (decimal q) own.1) (refl, plain_digits f more) in
    let value : digits_value 10 (decimal q ++ f) ≡ d.digits * 10 ^ d.zeros =
    point_value d.digits d.places q r low few room (div-add-mod' d.digits (10 ^ d.places)) ∙ sym (ap (λ z. d.digits * 10 ^ z) (e.one_side some) ∙ times_one d.digits) in
    number_signed d.is_negative (decimal q ++ (46 ∷ f)) (plain_numeral (decimal q) f) first plain (not_octal_point d.is_negative (decimal q) f) (reading_point (decimal q) f own.0 own.1 more)
    ∙ finite_is d (decimal q) f e own.1 more value (padded_length d.places r room)

zero_text : read_number (number_text (number.Finite exact_zero)) ≡ Ok (number.Finite exact_zero)
unfolding chars number_of decimal_form reading numeral finite digits
zero_text = refl

infinity_text : read_number (number_text number.Inf) ≡ Ok number.Inf
unfolding chars number_of decimal_form reading
infinity_text = refl

minus_text : read_number (number_text number.NegInf) ≡ Ok number.NegInf
unfolding chars number_of decimal_form reading
minus_text = refl

nan_text : read_number (number_text number.NaN) ≡ Ok number.NaN
unfolding chars number_of decimal_form reading
nan_text = refl

finite_text : (d : Exact) → IsExact d → read_number (number_text (number.Finite d)) ≡ Ok (number.Finite d)
finite_text d e =
    let whole : Text = decimal d.digits ++ replicate d.zeros 48 in
    let point : Text = decimal (d.digits / 10 ^ d.places) ++ (46 ∷ pad_zeros d.places (d.digits % 10 ^ d.places)) in
    ⊎_elim
    (λ some. ap (λ b. read_number (with_sign d.is_negative (cond b whole point))) (ne_eqb d.places 0 (omega arith)) ∙ point_text d e some)
    (λ low.
    let no_places : d.places ≡ 0 = omega arith in
    ⊎_elim
    (λ some. ap (λ b. read_number (with_sign d.is_negative (cond b whole point))) (eq-eqb d.places 0 no_places) ∙ whole_text d e some no_places)
    (λ none.
    let P : Exact → Type 0 = λ x. read_number (number_text (number.Finite x)) ≡ Ok (number.Finite x) in
    subst P (zero_is d e (omega arith)) zero_text)
    (cases_lt 0 d.digits))
    (cases_lt 0 d.places)

pub reads_back : (v : Number) → IsNumber v → read_number (number_text v) ≡ Ok v
reads_back (number.Finite d) is = finite_text d is
reads_back number.Inf is = infinity_text
reads_back number.NegInf is = minus_text
reads_back number.NaN is = nan_text
