-- Each number that a text gives is in its one form.
use Rattle.std.proofs.Common.{◌≡◌, ◌≢◌, ℕ, zero, suc, ◌+◌, ◌*◌, ◌/◌, ◌%◌, ◌^◌, ◌<◌, ◌≤◌, ⊎_elim, Bool, true, false, not, cond, ◌&&◌, ◌||◌, length, drop, arith, ap, ◌∙◌, sym, refl, subst, Option, Some, None, Result, Ok, Err}
use Rattle.std.specs.Prelude.{◌==◌, nat_le, nat_lt, codes, option_map}
use Rattle.std.specs.Char.{is_ascii_digit}
use Rattle.std.specs.List.{list_all, list_any}
use Rattle.std.specs.Option.{ok_or}
use Rattle.std.specs.Str.Parse.{AllDigits, digits_value}
use Rattle.std.proofs.Math.Nat.{zero-div, div-div-eq-div-mul, mul-div_left, div-one, pow-succ', pow-suc}
use Rattle.std.proofs.lemmas.Bool.{cases_lt, eqb-false}
use Rattle.std.proofs.lemmas.Bool.Decides.{nat_tests}
use Rattle.promql_text.specs.Texts.{Text}
use Rattle.promql_text.specs.DecimalForm.{front, digit_run, past_run, past_point, without_sign, is_word, is_minus, ends_well, Numeral, numeral, Reading, reading, NotANumber, Infinite, Signed, decimal_form, digits_number, exponent_size, places}
use Rattle.promql_text.specs.DecimalForm as form
use Rattle.promql_text.specs.NumberText.{at_place, finite, hexadecimal, is_digit_below, is_octal, is_x, without_whitespace, read_number, number_of, of_form, radix_number, apply_sign, zeros_of}
use Rattle.promql_text.specs.Numbers.{Exact, IsExact, digit_count, exact_zero, is_in_range, from_digits, exact_quotient, tens, whole}
use Rattle.promql_text.specs.Values.{IsNumber}
use Rattle.promql_text.specs.declared.number.Number.{Number}
use Rattle.promql_text.specs.declared.number.Number.TheVariants as number
use Rattle.promql_text.specs.declared.number.NumberFault.{NumberFault}
use Rattle.promql_text.specs.declared.number.NumberFault.TheVariants as fault
use Rattle.promql_text.proofs.numbers.Exacts.{exact_zero_is, whole_is, whole_value}
use Rattle.promql_text.proofs.numbers.Finites.{number_below}
use Rattle.promql_text.proofs.numerals.Runs.{run_digits}
use Rattle.promql_text.proofs.numbers.Tens.{tens_goes, tens_stops}

-- ---- a number without the zeros at its end, and these zeros

pub record Parts (n t : ℕ) : Type 0 where
  pub is : n / 10 ^ t * 10 ^ t ≡ n
  pub ends : n / 10 ^ t % 10 ≢ 0

parts_at : (n t u : ℕ) → t ≡ u → Parts n u → Parts n t
parts_at n t u e p = let P : ℕ → Type 0 = λ k. Parts n k in subst P (sym e) p

no_zero : (n : ℕ) → n % 10 ≢ 0 → Parts n 0
no_zero n ends = let e : n / 10 ^ 0 ≡ n = div-one n in record { is = grind (arith, e); ends = rw e ends }

one_more : (m t : ℕ) → 0 < m → Parts m t → Parts (m * 10) (suc t)
one_more m t some p =
    let down : m * 10 / 10 ^ suc t ≡ m / 10 ^ t =
    ap (λ k. m * 10 / k) (pow-succ' 10 t) ∙ sym (div-div-eq-div-mul (m * 10) 10 (10 ^ t)) ∙ ap (λ k. k / 10 ^ t) (mul-div_left m (omega arith)) in
    let up : m / 10 ^ t * (10 ^ t * 10) ≡ m / 10 ^ t * 10 ^ t * 10 = omega arith in
    record {
      is = ap (λ k. k * 10 ^ suc t) down ∙ ap (λ k. m / 10 ^ t * k) (pow-suc 10 t) ∙ up ∙ ap (λ k. k * 10) p.is;
      ends = rw down p.ends;
    }

pub tens_parts : (most n : ℕ) → 0 < n → n < 10 ^ most → Parts n (tens most n)
tens_parts zero n some less = absurd (omega arith)
tens_parts (suc most) n some less =
    ⊎_elim
    (λ left. parts_at n (tens (suc most) n) 0 (tens_stops (suc most) n (omega arith)) (no_zero n (omega arith)))
    (λ none.
    let m : ℕ = n / 10 in
    let e : n ≡ m * 10 = omega arith in
    let short : m < 10 ^ most = (let p = pow-suc 10 most in omega (arith, p)) in
    let P : ℕ → Type 0 = λ k. Parts k (tens (suc most) k) in
    subst P (sym e) (parts_at (m * 10) (tens (suc most) (m * 10)) (suc (tens most m)) (tens_goes most m) (one_more m (tens most m) (omega arith) (tens_parts most m (omega arith) short))))
    (cases_lt 0 (n % 10))

-- ---- whole numbers, and numbers at a place

pub whole_exact : (neg : Bool) (n : ℕ) → n < 2 ^ 64 → IsExact (whole neg n)
whole_exact neg n less =
    ⊎_elim
    (λ some.
    let p : Parts n (tens 20 n) = tens_parts 20 n some (omega arith) in
    let c : ℕ = n / 10 ^ tens 20 n in
    let left : 0 < c = (let h = p.ends in omega (arith, h)) in
    let P : Exact → Type 0 = λ d. IsExact d in
    subst P (whole_value neg c (tens 20 n) n p.is left p.ends less) (whole_is neg c (tens 20 n) n p.is left p.ends less))
    (λ low.
    let none : n ≡ 0 = omega arith in
    let P : ℕ → Type 0 = λ k. IsExact (whole neg k) in
    subst P (sym none) exact_zero_is)
    (cases_lt 0 n)

range_below : (c up down : ℕ) → is_in_range c up down ≡ true → digit_count c + up ≤ 309 + down
range_below c up down range = grind (arith, nat_tests)

range_above : (c up down : ℕ) → is_in_range c up down ≡ true → down ≤ digit_count c + up + 323
range_above c up down range = grind (arith, nat_tests)

pub scaled_exact : (neg : Bool) (c up down : ℕ) → c < 10 ^ 38 → c % 10 ≢ 0 → is_in_range c up down ≡ true → IsExact (exact_quotient neg c up down)
scaled_exact neg c up down short ends range =
    let low = range_below c up down range in
    let high = range_above c up down range in
    record {
      short = short;
      ends = λ e. absurd (ends e);
      one_zero = λ e. absurd (omega (arith, ends));
      one_side = λ some. omega arith;
      below = omega (arith, low, high);
      above = omega (arith, low, high);
    }

-- ---- what may be answered

when : {A : Type 0} (P : A → Type 0) (b : Bool) (x y : A) → (b ≡ true → P x) → (b ≡ false → P y) → P (cond b x y)
when P true x y yes_case no_case = yes_case refl
when P false x y yes_case no_case = no_case refl

abbrev ExactIfSome : Option Exact → Type 0
ExactIfSome None = Unit {0}
ExactIfSome (Some d) = IsExact d

abbrev InForm : Result Number NumberFault → Type 0
InForm (Ok v) = IsNumber v
InForm (Err e) = Unit {0}

placed_form : (neg : Bool) (c up down : ℕ) → c < 10 ^ 38 → (c % 10 ≡ 0 → c ≡ 0) → ExactIfSome (from_digits neg c up down)
placed_form neg c up down short ends =
    when ExactIfSome (c == 0) (Some exact_zero) (cond (is_in_range c up down) (Some (exact_quotient neg c up down)) None)
    (λ _. exact_zero_is)
    (λ some. when ExactIfSome (is_in_range c up down) (Some (exact_quotient neg c up down)) None
    (λ range. scaled_exact neg c up down short (λ e. eqb-false c 0 some (ends e)) range)
    (λ _. tt))

ok_form : (p : Option Exact) → ExactIfSome p → InForm (ok_or (option_map number.Finite p) fault.OutOfRange)
ok_form None h = tt
ok_form (Some d) h = h

-- ---- hexadecimal and octal texts

below_64 : (v : ℕ) → nat_lt v (2 ^ 63) ≡ true → v < 2 ^ 64
below_64 v less = grind (arith, nat_tests)

radix_form : (radix : ℕ) (b : Bool) (ds : Text) → InForm (radix_number radix b ds)
unfolding radix_number
radix_form radix b ds =
    let v : ℕ = digits_value radix ds in
    let value : Result Number NumberFault = Ok (number.Finite (whole b v)) in
    let far : Result Number NumberFault = Err fault.OutOfRange in
    when InForm (not (length ds == 0) && list_all (is_digit_below radix) ds) (cond (nat_lt v (2 ^ 63)) value far) (Err fault.NotANumber)
    (λ _. when InForm (nat_lt v (2 ^ 63)) value far (λ less. whole_exact b v (below_64 v less)) (λ _. tt))
    (λ _. tt)

hexadecimal_form : (s : Text) → InForm (hexadecimal s)
unfolding hexadecimal
hexadecimal_form s =
    let body : Text = without_sign s in
    when InForm (front body == 48 && is_x (front (drop 1 body))) (radix_number 16 (is_minus s) (drop 2 body)) (Err fault.NotANumber)
    (λ _. radix_form 16 (is_minus s) (drop 2 body)) (λ _. tt)

-- ---- decimal texts

not_long : (c : ℕ) → nat_le (10 ^ 38) c ≡ false → c < 10 ^ 38
not_long c short = grind (arith, nat_tests)

quotient_ends : (n : Numeral) → AllDigits 10 n.whole → AllDigits 10 n.fraction → digits_number n / 10 ^ zeros_of n % 10 ≡ 0 → digits_number n / 10 ^ zeros_of n ≡ 0
quotient_ends n whole fraction last =
    ⊎_elim
    (λ some. absurd ((tens_parts (length n.whole + length n.fraction) (digits_number n) some (number_below n whole fraction)).ends last))
    (λ low.
    let none : digits_number n ≡ 0 = omega arith in
    ap (λ m. m / 10 ^ zeros_of n) none ∙ zero-div (10 ^ zeros_of n))
    (cases_lt 0 (digits_number n))

finite_form : (b : Bool) (n : Numeral) → AllDigits 10 n.whole → AllDigits 10 n.fraction → InForm (finite b n)
unfolding finite
finite_form b n whole fraction =
    let c : ℕ = digits_number n / 10 ^ zeros_of n in
    let z : ℕ = zeros_of n in
    when InForm (nat_le (10 ^ 38) c) (Err fault.TooManyDigits) (ok_or (option_map number.Finite (at_place b c z n)) fault.OutOfRange)
    (λ _. tt)
    (λ long.
    let short : c < 10 ^ 38 = not_long c long in
    let ends : c % 10 ≡ 0 → c ≡ 0 = quotient_ends n whole fraction in
    ok_form (at_place b c z n)
    (when ExactIfSome n.is_down (from_digits b c z (places n + exponent_size n)) (from_digits b c (z + exponent_size n) (places n))
    (λ _. placed_form b c z (places n + exponent_size n) short ends)
    (λ _. placed_form b c (z + exponent_size n) (places n) short ends)))

abbrev OfDigits : Numeral → Type 0
OfDigits n = AllDigits 10 n.whole × AllDigits 10 n.fraction

abbrev DigitsIfSome : Option Numeral → Type 0
DigitsIfSome None = Unit {0}
DigitsIfSome (Some n) = OfDigits n

abbrev ReadingIn : Option Reading → Type 0
ReadingIn None = Unit {0}
ReadingIn (Some NotANumber) = Unit {0}
ReadingIn (Some Infinite) = Unit {0}
ReadingIn (Some (form.Finite n)) = OfDigits n

abbrev SignedIn : Option Signed → Type 0
SignedIn None = Unit {0}
SignedIn (Some f) = ReadingIn (Some f.reading)

numeral_form : (s : Text) → DigitsIfSome (numeral s)
unfolding numeral
numeral_form s =
    let after_point : Text = past_point (past_run s) in
    let end : Text = past_run after_point in
    when DigitsIfSome ((is_ascii_digit (front s) || is_ascii_digit (front after_point)) && ends_well end)
    (Some (record { whole = digit_run s; fraction = digit_run after_point; is_down = is_minus (drop 1 end); exponent = digit_run (without_sign (drop 1 end)) })) None
    (λ _. (run_digits s, run_digits after_point)) (λ _. tt)

read_form : (o : Option Numeral) → DigitsIfSome o → ReadingIn (option_map form.Finite o)
read_form None h = tt
read_form (Some n) h = h

reading_form : (s : Text) → ReadingIn (reading s)
unfolding reading
reading_form s =
    when ReadingIn (is_word s (codes "inf") || is_word s (codes "infinity")) (Some Infinite) (cond (is_word s (codes "nan")) (Some NotANumber) (option_map form.Finite (numeral s)))
    (λ _. tt)
    (λ _. when ReadingIn (is_word s (codes "nan")) (Some NotANumber) (option_map form.Finite (numeral s)) (λ _. tt) (λ _. read_form (numeral s) (numeral_form s)))

signed_read : (b : Bool) (o : Option Reading) → ReadingIn o → SignedIn (option_map (λ r. record { is_negative = b; reading = r }) o)
signed_read b None h = tt
signed_read b (Some r) h = h

signed_form : (b : Bool) (r : Reading) → ReadingIn (Some r) → InForm (apply_sign b r)
signed_form b NotANumber h = tt
signed_form true Infinite h = tt
signed_form false Infinite h = tt
signed_form b (form.Finite n) h = finite_form b n h.0 h.1

of_form_form : (o : Option Signed) → SignedIn o → InForm (of_form o)
of_form_form None h = tt
of_form_form (Some f) h = signed_form f.is_negative f.reading h

decimal_form_form : (s : Text) → SignedIn (decimal_form s)
unfolding decimal_form
decimal_form_form s = signed_read (is_minus s) (reading (without_sign s)) (reading_form (without_sign s))

-- ---- any text

number_form : (s : Text) → InForm (number_of s)
unfolding number_of
number_form s =
    when InForm (list_any is_x s) (hexadecimal s) (cond (is_octal s) (radix_number 8 (is_minus s) (drop 1 (without_sign s))) (of_form (decimal_form s)))
    (λ _. hexadecimal_form s)
    (λ _. when InForm (is_octal s) (radix_number 8 (is_minus s) (drop 1 (without_sign s))) (of_form (decimal_form s))
    (λ _. radix_form 8 (is_minus s) (drop 1 (without_sign s)))
    (λ _. of_form_form (decimal_form s) (decimal_form_form s)))

pub read_in_form : (s : Text) (v : Number) → read_number s ≡ Ok v → IsNumber v
read_in_form s v is =
    let P : Result Number NumberFault → Type 0 = λ r. InForm r in
    subst P is (number_form (without_whitespace s))
