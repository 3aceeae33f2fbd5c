-- The number that a text begins with, by its parts.
use Rattle.std.proofs.Common.{◌≡◌, ℕ, suc, ◌+◌, ◌<◌, Bool, true, false, cond, [], ◌∷◌, ◌++◌, length, get_or, refl, sym, ap, ◌∙◌, subst, inl, inr, ◌⊎◌, ⊎_elim, arith, append_assoc, length-append, eqb-true}
use Rattle.std.specs.Prelude.{◌==◌, ◌&&◌, ◌||◌}
use Rattle.std.specs.Char.{is_ascii_digit}
use Rattle.std.specs.List.{list_all}
use Rattle.std.proofs.lemmas.Grind.{common_steps}
use Rattle.promql_token.specs.declared.class.Class.{Class}
use Rattle.promql_token.specs.declared.class.Class.TheVariants as class
use Rattle.promql_text.specs.Texts.{Text}
use Rattle.promql_token.specs.Begins.{IsNumber, is_fraction, is_power}
use Rattle.promql_token.specs.Classes.{is_in, end_of_run}
use Rattle.promql_token.specs.Vocabulary.{next}
use Rattle.promql_token.specs.Laws.{is_exponent, is_sign}
use Rattle.promql_token.specs.TokenScanning.{begins_numeral, digits, is_hex, number_end, past_exponent, past_point, past_sign, past_whole}
use Rattle.promql_token.specs.Printed.{are_digits}
use Rattle.promql_token.proofs.cursors.TestsAndCounts.{not_one, by_bool}
use Rattle.promql_token.proofs.one_reading.Ends.{and_left, and_right, or_cases}
use Rattle.promql_token.proofs.printed.PrintedForms.{at_seam, no_hex, past_middle, past_front}

-- ---- runs

pub record Run (p : ℕ → Bool) (z : Text) : Type 0 where
  pub run : Text
  pub rest : Text
  pub is : z ≡ run ++ rest
  pub all : list_all p run ≡ true
  pub stop : p (next rest) ≡ false

pub run_of : (p : ℕ → Bool) (z : Text) → p 0 ≡ false → Run p z
run_of p [] none = record { run = []; rest = []; is = refl; all = refl; stop = none }
run_of p (b ∷ z) none =
    by_bool (p b) (λ first. let k = run_of p z none in record { run = b ∷ k.run; rest = k.rest; is = ap (λ t. b ∷ t) k.is; all = λ i. first i && k.all i; stop = k.stop })
    (λ first. record { run = []; rest = b ∷ z; is = refl; all = refl; stop = first })

pub in_none : (c : Class) → is_in c 0 ≡ false
in_none class.White = refl
in_none class.Digit = refl
in_none class.HexDigit = refl
in_none class.Name = refl
in_none class.Word = refl

pub past_at : (c : Class) (z u w r : Text) (n : ℕ) → z ≡ u ++ (w ++ r) → n ≡ length u → list_all (is_in c) w ≡ true → is_in c (next r) ≡ false → end_of_run c z n ≡ n + length w
past_at c z u w r n is len all stop = (λ i. end_of_run c (is i) (len i)) ∙ past_middle c u w r all stop ∙ ap (λ n. n + length w) (sym len)

pub byte_at : (z u r : Text) (n : ℕ) → z ≡ u ++ r → n ≡ length u → get_or z n 0 ≡ next r
byte_at z u r n is len = (λ i. get_or (is i) (len i) 0) ∙ at_seam u r

-- ---- where the parts end

point_end : (c : Class) (front fraction r : Text) → is_fraction c fraction ≡ true → is_in c (next r) ≡ false → (fraction ≡ [] → (next r == 46) ≡ false)
    → past_point c (front ++ (fraction ++ r)) (length front) ≡ length front + length fraction
point_end c front [] r h stop none =
    let n = length front in
    let same : n ≡ n + 0 = omega arith in
    ap (λ b. cond (b == 46) (end_of_run c (front ++ r) (n + 1)) n) (at_seam front r) ∙ ap (λ x. cond x (end_of_run c (front ++ r) (n + 1)) n) (none refl) ∙ same
point_end c front (b ∷ ds) r h stop none =
    let n = length front in
    let z : Text = front ++ (b ∷ (ds ++ r)) in
    let same : n + 1 + length ds ≡ n + suc (length ds) = omega arith in
    ap (λ x. cond (x == 46) (end_of_run c z (n + 1)) n) (at_seam front (b ∷ (ds ++ r))) ∙ ap (λ x. cond x (end_of_run c z (n + 1)) n) (and_left (b == 46) (list_all (is_in c) ds) h)
    ∙ past_at c z (front ++ b ∷ []) ds r (n + 1) (sym (append_assoc front (b ∷ []) (ds ++ r))) (sym (length-append front (b ∷ []))) (and_right (b == 46) (list_all (is_in c) ds) h) stop ∙ same

no_digit_sign : (b : ℕ) → is_ascii_digit b ≡ true → is_sign b ≡ false
no_digit_sign b h = grind (arith, common_steps)

power_end : (front power r : Text) → is_power power ≡ true → (power ≡ [] → is_exponent (next r) ≡ false) → is_ascii_digit (next r) ≡ false → (length power == 1 && is_sign (next r)) ≡ false
    → past_exponent (front ++ (power ++ r)) (length front) ≡ length front + length power
power_end front [] r h none stop bare =
    let n = length front in
    let z : Text = front ++ r in
    let same : n ≡ n + 0 = omega arith in
    ap (λ b. cond (is_exponent b) (end_of_run class.Digit z (past_sign z (n + 1))) n) (at_seam front r) ∙ ap (λ x. cond x (end_of_run class.Digit z (past_sign z (n + 1))) n) (none refl) ∙ same
power_end front (e ∷ []) r h none stop bare =
    let n = length front in
    let z : Text = front ++ (e ∷ r) in
    let u : Text = front ++ e ∷ [] in
    let is : z ≡ u ++ r = sym (append_assoc front (e ∷ []) r) in
    let len : n + 1 ≡ length u = sym (length-append front (e ∷ [])) in
    let same : n + 1 + 0 ≡ n + 1 = omega arith in
    ap (λ b. cond (is_exponent b) (end_of_run class.Digit z (past_sign z (n + 1))) n) (at_seam front (e ∷ r)) ∙ ap (λ x. cond x (end_of_run class.Digit z (past_sign z (n + 1))) n) h
    ∙ ap (λ b. end_of_run class.Digit z (cond (is_sign b) (n + 1 + 1) (n + 1))) (byte_at z u r (n + 1) is len) ∙ ap (λ x. end_of_run class.Digit z (cond x (n + 1 + 1) (n + 1))) bare
    ∙ past_at class.Digit z u [] r (n + 1) is len refl stop ∙ same
power_end front (e ∷ b ∷ ds) r h none stop bare =
    let n = length front in
    let z : Text = front ++ (e ∷ b ∷ (ds ++ r)) in
    let u : Text = front ++ e ∷ [] in
    let u2 : Text = front ++ e ∷ b ∷ [] in
    let is : z ≡ u ++ (b ∷ (ds ++ r)) = sym (append_assoc front (e ∷ []) (b ∷ (ds ++ r))) in
    let is2 : z ≡ u2 ++ (ds ++ r) = sym (append_assoc front (e ∷ b ∷ []) (ds ++ r)) in
    let len : n + 1 ≡ length u = sym (length-append front (e ∷ [])) in
    let len2 : n + 1 + 1 ≡ length u2 = omega (arith, length-append front (e ∷ b ∷ [])) in
    let more = and_right (is_exponent e) ((is_sign b || is_ascii_digit b) && are_digits ds) h in
    let ds_all = and_right (is_sign b || is_ascii_digit b) (are_digits ds) more in
    let same : n + 1 + 1 + length ds ≡ n + suc (suc (length ds)) = omega arith in
    let same2 : n + 1 + suc (length ds) ≡ n + suc (suc (length ds)) = omega arith in
    ap (λ b. cond (is_exponent b) (end_of_run class.Digit z (past_sign z (n + 1))) n) (at_seam front (e ∷ b ∷ (ds ++ r))) ∙ ap (λ x. cond x (end_of_run class.Digit z (past_sign z (n + 1))) n) (and_left (is_exponent e) ((is_sign b || is_ascii_digit b) && are_digits ds) h)
    ∙ ap (λ b. end_of_run class.Digit z (cond (is_sign b) (n + 1 + 1) (n + 1))) (byte_at z u (b ∷ (ds ++ r)) (n + 1) is len)
    ∙ by_bool (is_sign b)
    (λ signed. ap (λ x. end_of_run class.Digit z (cond x (n + 1 + 1) (n + 1))) signed ∙ past_at class.Digit z u2 ds r (n + 1 + 1) is2 len2 ds_all stop ∙ same)
    (λ plain. ap (λ x. end_of_run class.Digit z (cond x (n + 1 + 1) (n + 1))) plain
    ∙ past_at class.Digit z u (b ∷ ds) r (n + 1) is len (λ i. digit_of plain (and_left (is_sign b || is_ascii_digit b) (are_digits ds) more) i && ds_all i) stop ∙ same2)
  where
    digit_of : {x y : Bool} → x ≡ false → (x || y) ≡ true → y ≡ true
    digit_of {x = true} p h = absurd (cc)
    digit_of {x = false} p h = h

-- ---- numbers

pub record Decimal (z : Text) : Type 0 where
  pub whole : Text
  pub fraction : Text
  pub power : Text
  pub rest : Text
  pub is : z ≡ whole ++ (fraction ++ (power ++ rest))
  pub digits : are_digits whole ≡ true
  pub fraction_is : is_fraction class.Digit fraction ≡ true
  pub power_is : is_power power ≡ true
  pub whole_stop : is_ascii_digit (next (fraction ++ (power ++ rest))) ≡ false
  pub fraction_stop : is_ascii_digit (next (power ++ rest)) ≡ false
  pub no_point : fraction ≡ [] → (next (power ++ rest) == 46) ≡ false
  pub no_power : power ≡ [] → is_exponent (next rest) ≡ false
  pub stop : is_ascii_digit (next rest) ≡ false
  pub no_sign : (length power == 1 && is_sign (next rest)) ≡ false

decimal_at : (whole fraction power r : Text) → let z = whole ++ (fraction ++ (power ++ r)) in is_hex z ≡ false
    → are_digits whole ≡ true → is_fraction class.Digit fraction ≡ true → is_power power ≡ true
    → is_ascii_digit (next (fraction ++ (power ++ r))) ≡ false → is_ascii_digit (next (power ++ r)) ≡ false → (fraction ≡ [] → (next (power ++ r) == 46) ≡ false)
    → (power ≡ [] → is_exponent (next r) ≡ false) → is_ascii_digit (next r) ≡ false → (length power == 1 && is_sign (next r)) ≡ false
    → number_end z ≡ length whole + length fraction + length power
unfolding number_end
decimal_at whole fraction power r plain ds f p whole_stop fraction_stop no_point no_power stop no_sign =
    let z : Text = whole ++ (fraction ++ (power ++ r)) in
    let n = length whole in
    let u : Text = whole ++ fraction in
    let is : z ≡ u ++ (power ++ r) = sym (append_assoc whole fraction (power ++ r)) in
    let len : n + length fraction ≡ length u = sym (length-append whole fraction) in
    let whole_end : past_whole z ≡ n = ap (λ x. end_of_run (cond x class.HexDigit class.Digit) z (cond x 2 0)) plain ∙ past_front class.Digit whole (fraction ++ (power ++ r)) ds whole_stop in
    ap (λ k. past_exponent z (past_point (digits z) z k)) whole_end
    ∙ ap (λ x. past_exponent z (past_point (cond x class.HexDigit class.Digit) z n)) plain
    ∙ ap (past_exponent z) (point_end class.Digit whole fraction (power ++ r) f fraction_stop no_point)
    ∙ (λ i. past_exponent (is i) (len i))
    ∙ power_end u power r p no_power stop no_sign
    ∙ ap (λ k. k + length power) (sym len)

pub decimal_end : (z : Text) (d : Decimal z) → is_hex z ≡ false → number_end z ≡ length d.whole + length d.fraction + length d.power
decimal_end z d plain =
    ap number_end d.is ∙ decimal_at d.whole d.fraction d.power d.rest (ap is_hex (sym d.is) ∙ plain) d.digits d.fraction_is d.power_is d.whole_stop d.fraction_stop d.no_point d.no_power d.stop d.no_sign

pub record Hex (z : Text) : Type 0 where
  pub x : ℕ
  pub whole : Text
  pub fraction : Text
  pub rest : Text
  pub is : z ≡ 48 ∷ x ∷ (whole ++ (fraction ++ rest))
  pub x_is : (x == 120 || x == 88) ≡ true
  pub digits : list_all (is_in class.HexDigit) whole ≡ true
  pub fraction_is : is_fraction class.HexDigit fraction ≡ true
  pub whole_stop : is_in class.HexDigit (next (fraction ++ rest)) ≡ false
  pub stop : is_in class.HexDigit (next rest) ≡ false
  pub no_point : fraction ≡ [] → (next rest == 46) ≡ false

no_hex_exponent : (b : ℕ) → is_in class.HexDigit b ≡ false → is_exponent b ≡ false
no_hex_exponent b h = grind (arith, common_steps)

hex_at : (x : ℕ) (whole fraction r : Text) → (x == 120 || x == 88) ≡ true → list_all (is_in class.HexDigit) whole ≡ true → is_fraction class.HexDigit fraction ≡ true
    → is_in class.HexDigit (next (fraction ++ r)) ≡ false → is_in class.HexDigit (next r) ≡ false → (fraction ≡ [] → (next r == 46) ≡ false)
    → number_end (48 ∷ x ∷ (whole ++ (fraction ++ r))) ≡ suc (suc (length whole)) + length fraction
unfolding number_end
hex_at x whole fraction r x_is ds f whole_stop stop no_point =
    let z : Text = 48 ∷ x ∷ (whole ++ (fraction ++ r)) in
    let front : Text = 48 ∷ x ∷ whole in
    let n = length front in
    let u : Text = front ++ fraction in
    let m = n + length fraction in
    let is : z ≡ u ++ r = sym (append_assoc front fraction r) in
    let len : m ≡ length u = sym (length-append front fraction) in
    let two : 2 + length whole ≡ n = omega arith in
    let whole_end : past_whole z ≡ n =
    ap (λ b. end_of_run (cond b class.HexDigit class.Digit) z (cond b 2 0)) x_is ∙ past_at class.HexDigit z (48 ∷ x ∷ []) whole (fraction ++ r) 2 refl refl ds whole_stop ∙ two in
    ap (λ k. past_exponent z (past_point (digits z) z k)) whole_end
    ∙ ap (λ b. past_exponent z (past_point (cond b class.HexDigit class.Digit) z n)) x_is
    ∙ ap (past_exponent z) (point_end class.HexDigit front fraction r f stop no_point)
    ∙ ap (λ b. cond (is_exponent b) (end_of_run class.Digit z (past_sign z (m + 1))) m) (byte_at z u r m is len)
    ∙ ap (λ b. cond b (end_of_run class.Digit z (past_sign z (m + 1))) m) (no_hex_exponent (next r) stop)

pub hex_end : (z : Text) (h : Hex z) → number_end z ≡ suc (suc (length h.whole)) + length h.fraction
hex_end z h = ap number_end h.is ∙ hex_at h.x h.whole h.fraction h.rest h.x_is h.digits h.fraction_is h.whole_stop h.stop h.no_point

-- ---- each text begins with such parts

record FractionOf (c : Class) (t : Text) : Type 0 where
  fraction : Text
  rest : Text
  is : t ≡ fraction ++ rest
  fraction_is : is_fraction c fraction ≡ true
  stop : is_in c (next rest) ≡ false
  no_point : fraction ≡ [] → (next rest == 46) ≡ false

fraction_of : (c : Class) (t : Text) → is_in c (next t) ≡ false → FractionOf c t
fraction_of c [] h = record { fraction = []; rest = []; is = refl; fraction_is = refl; stop = h; no_point = λ _. refl }
fraction_of c (b ∷ t) h =
    by_bool (b == 46)
    (λ point. let k = run_of (is_in c) t (in_none c) in
    record { fraction = b ∷ k.run; rest = k.rest; is = ap (λ t. b ∷ t) k.is; fraction_is = λ i. point i && k.all i; stop = k.stop; no_point = λ e. absurd (cc) })
    (λ point. record { fraction = []; rest = b ∷ t; is = refl; fraction_is = refl; stop = h; no_point = λ _. point })

record PowerOf (t : Text) : Type 0 where
  power : Text
  rest : Text
  is : t ≡ power ++ rest
  power_is : is_power power ≡ true
  no_power : power ≡ [] → is_exponent (next rest) ≡ false
  stop : is_ascii_digit (next rest) ≡ false
  no_sign : (length power == 1 && is_sign (next rest)) ≡ false

long_power : (e b : ℕ) (t : Text) → is_exponent e ≡ true → (is_sign b || is_ascii_digit b) ≡ true → PowerOf (e ∷ b ∷ t)
long_power e b t exp first =
    let k = run_of is_ascii_digit t refl in
    record {
      power = e ∷ b ∷ k.run;
      rest = k.rest;
      is = ap (λ t. e ∷ b ∷ t) k.is;
      power_is = λ i. exp i && (first i && k.all i);
      no_power = λ no. absurd (cc);
      stop = k.stop;
      no_sign = ap (λ x. x && is_sign (next k.rest)) (not_one (length k.run));
    }

power_of : (t : Text) → is_ascii_digit (next t) ≡ false → PowerOf t
power_of [] h = record { power = []; rest = []; is = refl; power_is = refl; no_power = λ _. refl; stop = refl; no_sign = refl }
power_of (e ∷ []) h =
    by_bool (is_exponent e)
    (λ exp. record { power = e ∷ []; rest = []; is = refl; power_is = exp; no_power = λ no. absurd (cc); stop = refl; no_sign = refl })
    (λ exp. record { power = []; rest = e ∷ []; is = refl; power_is = refl; no_power = λ _. exp; stop = h; no_sign = refl })
power_of (e ∷ b ∷ t) h =
    by_bool (is_exponent e)
    (λ exp. by_bool (is_sign b) (λ signed. long_power e b t exp (ap (λ x. x || is_ascii_digit b) signed)) (λ plain.
    by_bool (is_ascii_digit b) (λ digit. long_power e b t exp ((λ i. plain i || digit i)))
    (λ other. record { power = e ∷ []; rest = b ∷ t; is = refl; power_is = exp; no_power = λ no. absurd (cc); stop = other; no_sign = plain })))
    (λ exp. record { power = []; rest = e ∷ b ∷ t; is = refl; power_is = refl; no_power = λ _. exp; stop = h; no_sign = refl })

decimal_of : (z : Text) → Decimal z
decimal_of z =
    let w = run_of is_ascii_digit z refl in
    let f = fraction_of class.Digit w.rest w.stop in
    let p = power_of f.rest f.stop in
    record {
      whole = w.run;
      fraction = f.fraction;
      power = p.power;
      rest = p.rest;
      is = w.is ∙ ap (λ t. w.run ++ t) (f.is ∙ ap (λ t. f.fraction ++ t) p.is);
      digits = w.all;
      fraction_is = f.fraction_is;
      power_is = p.power_is;
      whole_stop = subst (λ t. is_ascii_digit (next t) ≡ false) (f.is ∙ ap (λ t. f.fraction ++ t) p.is) w.stop;
      fraction_stop = subst (λ t. is_ascii_digit (next t) ≡ false) p.is f.stop;
      no_point = λ e. subst (λ t. (next t == 46) ≡ false) p.is (f.no_point e);
      no_power = p.no_power;
      stop = p.stop;
      no_sign = p.no_sign;
    }

hex_of : (z : Text) → is_hex z ≡ true → Hex z
hex_of [] h = absurd (cc)
hex_of (b ∷ []) h = let no = and_right (b == 48) false h in absurd (cc)
hex_of (b ∷ x ∷ t) h =
    let w = run_of (is_in class.HexDigit) t refl in
    let f = fraction_of class.HexDigit w.rest w.stop in
    record {
      x = x;
      whole = w.run;
      fraction = f.fraction;
      rest = f.rest;
      is = (λ i. eqb-true b 48 (and_left (b == 48) ((x == 120) || (x == 88)) h) i ∷ x ∷ (w.is ∙ ap (λ t. w.run ++ t) f.is) i);
      x_is = and_right (b == 48) ((x == 120) || (x == 88)) h;
      digits = w.all;
      fraction_is = f.fraction_is;
      whole_stop = subst (λ t. is_in class.HexDigit (next t) ≡ false) f.is w.stop;
      stop = f.stop;
      no_point = f.no_point;
    }

-- ---- the number at the front

pub record Front (z : Text) : Type 0 where
  pub number : Text
  pub rest : Text
  pub is : z ≡ number ++ rest
  pub end : number_end z ≡ length number
  pub is_number : IsNumber number (next rest)

some_digit : (whole fraction t : Text) → begins_numeral (whole ++ (fraction ++ t)) ≡ true → is_ascii_digit (next (fraction ++ t)) ≡ false → is_ascii_digit (next t) ≡ false
    → (fraction ≡ [] → (next t == 46) ≡ false) → (0 < length whole) ⊎ (1 < length fraction)
some_digit (b ∷ whole) fraction t begins stop fraction_stop no_point = inl (omega arith)
some_digit [] (b ∷ c ∷ ds) t begins stop fraction_stop no_point = inr (omega arith)
some_digit [] [] t begins stop fraction_stop no_point =
    let no : begins_numeral t ≡ false = λ i. stop i || (no_point refl i && is_ascii_digit (get_or t 1 0)) in absurd (cc)
some_digit [] (b ∷ []) t begins stop fraction_stop no_point =
    let no : begins_numeral (b ∷ t) ≡ false = (λ i. stop i || ((b == 46) && fraction_stop i)) ∙ never (b == 46) in absurd (cc)
  where
    never : (c : Bool) → (c && false) ≡ false
    never true = refl
    never false = refl

pub front_of : (z : Text) → begins_numeral z ≡ true → Front z
front_of z begins =
    by_bool (is_hex z)
    (λ hex.
    let h = hex_of z hex in
    let number : Text = 48 ∷ h.x ∷ (h.whole ++ h.fraction) in
    let len : suc (suc (length h.whole)) + length h.fraction ≡ length number = omega (arith, length-append h.whole h.fraction) in
    record {
      number = number;
      rest = h.rest;
      is = h.is ∙ ap (λ t. 48 ∷ h.x ∷ t) (sym (append_assoc h.whole h.fraction h.rest));
      end = hex_end z h ∙ len;
      is_number = inl ((h.x, h.whole, h.fraction, refl, h.x_is, h.digits, h.fraction_is), h.stop);
    })
    (λ plain.
    let d = decimal_of z in
    let number : Text = d.whole ++ (d.fraction ++ d.power) in
    let len : length d.whole + length d.fraction + length d.power ≡ length number = omega (arith, length-append d.whole (d.fraction ++ d.power), length-append d.fraction d.power) in
    record {
      number = number;
      rest = d.rest;
      is = d.is ∙ ap (λ t. d.whole ++ t) (sym (append_assoc d.fraction d.power d.rest)) ∙ sym (append_assoc d.whole (d.fraction ++ d.power) d.rest);
      end = decimal_end z d plain ∙ len;
      is_number = inr (d.power, (d.whole, d.fraction, refl, d.digits, d.fraction_is, d.power_is, some_digit d.whole d.fraction (d.power ++ d.rest) (ap begins_numeral (sym d.is) ∙ begins) d.whole_stop d.fraction_stop d.no_point), d.no_sign);
    })

-- ---- a number by its parts is the number at the front

-- a byte that goes on with no number, but for a sign
pub record IsApart (c : ℕ) : Type 0 where
  pub digit : is_ascii_digit c ≡ false
  pub point : (c == 46) ≡ false
  pub exponent : is_exponent c ≡ false
  pub hex : ((c == 120) || (c == 88)) ≡ false

fraction_next : (P : ℕ → Type 0) (c : Class) (fraction r : Text) → is_fraction c fraction ≡ true → P 46 → P (next r) → P (next (fraction ++ r))
fraction_next P c [] r h point rest = rest
fraction_next P c (b ∷ ds) r h point rest = subst P (sym (eqb-true b 46 (and_left (b == 46) (list_all (is_in c) ds) h))) point

exponent_byte : (P : ℕ → Type 0) (e : ℕ) → is_exponent e ≡ true → P 101 → P 69 → P e
exponent_byte P e h low up = ⊎_elim (λ is. subst P (sym (eqb-true e 101 is)) low) (λ is. subst P (sym (eqb-true e 69 is)) up) (or_cases (e == 101) (e == 69) h)

power_next : (P : ℕ → Type 0) (power r : Text) → is_power power ≡ true → P 101 → P 69 → P (next r) → P (next (power ++ r))
power_next P [] r h low up rest = rest
power_next P (e ∷ []) r h low up rest = exponent_byte P e h low up
power_next P (e ∷ b ∷ ds) r h low up rest = exponent_byte P e (and_left (is_exponent e) ((is_sign b || is_ascii_digit b) && are_digits ds) h) low up

no_x_first : (t : Text) → (next t == 48) ≡ false → is_hex t ≡ false
no_x_first t h = ap (λ x. x && ((get_or t 1 0 == 120) || (get_or t 1 0 == 88))) h

plain_number : (whole fraction t : Text) → are_digits whole ≡ true → is_fraction class.Digit fraction ≡ true → (0 < length whole) ⊎ (1 < length fraction)
    → ((next (fraction ++ t) == 120) || (next (fraction ++ t) == 88)) ≡ false → is_hex (whole ++ (fraction ++ t)) ≡ false
plain_number (b ∷ whole) fraction t ds f some stop = no_hex (b ∷ whole) (fraction ++ t) (omega arith) ds stop
plain_number [] [] t ds f some stop = absurd (⊎_elim (λ (h : 0 < 0). omega arith) (λ (h : 1 < 0). omega arith) some)
plain_number [] (b ∷ fs) t ds f some stop =
    let point = eqb-true b 46 (and_left (b == 46) (list_all is_ascii_digit fs) f) in
    no_x_first (b ∷ (fs ++ t)) (ap (λ b. b == 48) point)

pub number_is : (w r : Text) → IsNumber w (next r) → IsApart (next r) → (number_end (w ++ r) ≡ length w) × (begins_numeral (w ++ r) ≡ true)
number_is w r (inl h) apart =
    let x = h.0.0 in
    let whole = h.0.1 in
    let fraction = h.0.2 in
    let number : Text = 48 ∷ x ∷ (whole ++ fraction) in
    let is : w ++ r ≡ 48 ∷ x ∷ (whole ++ (fraction ++ r)) = ap (λ t. t ++ r) h.0.3 ∙ ap (λ t. 48 ∷ x ∷ t) (append_assoc whole fraction r) in
    let k : Hex (w ++ r) = record {
      x = x;
      whole = whole;
      fraction = fraction;
      rest = r;
      is = is;
      x_is = h.0.4;
      digits = h.0.5;
      fraction_is = h.0.6;
      whole_stop = fraction_next (λ b. is_in class.HexDigit b ≡ false) class.HexDigit fraction r h.0.6 refl h.1;
      stop = h.1;
      no_point = λ _. apart.point;
    } in
    let len : suc (suc (length whole)) + length fraction ≡ length number = omega (arith, length-append whole fraction) in
    (hex_end (w ++ r) k ∙ len ∙ ap length (sym h.0.3), ap begins_numeral is)
number_is w r (inr h) apart =
    let power = h.0 in
    let whole = h.1.0 in
    let fraction = h.1.1 in
    let number : Text = whole ++ (fraction ++ power) in
    let t : Text = power ++ r in
    let is : w ++ r ≡ whole ++ (fraction ++ t) = ap (λ t. t ++ r) h.1.2 ∙ append_assoc whole (fraction ++ power) r ∙ ap (λ t. whole ++ t) (append_assoc fraction power r) in
    let digit = power_next (λ b. is_ascii_digit b ≡ false) power r h.1.5 refl refl apart.digit in
    let d : Decimal (w ++ r) = record {
      whole = whole;
      fraction = fraction;
      power = power;
      rest = r;
      is = is;
      digits = h.1.3;
      fraction_is = h.1.4;
      power_is = h.1.5;
      whole_stop = fraction_next (λ b. is_ascii_digit b ≡ false) class.Digit fraction t h.1.4 refl digit;
      fraction_stop = digit;
      no_point = λ _. power_next (λ b. (b == 46) ≡ false) power r h.1.5 refl refl apart.point;
      no_power = λ _. apart.exponent;
      stop = apart.digit;
      no_sign = h.2;
    } in
    let no_x = fraction_next (λ b. ((b == 120) || (b == 88)) ≡ false) class.Digit fraction t h.1.4 refl (power_next (λ b. ((b == 120) || (b == 88)) ≡ false) power r h.1.5 refl refl apart.hex) in
    let plain = ap is_hex is ∙ plain_number whole fraction t h.1.3 h.1.4 h.1.6 no_x in
    let len : length whole + length fraction + length power ≡ length number = omega (arith, length-append whole (fraction ++ power), length-append fraction power) in
    (decimal_end (w ++ r) d plain ∙ len ∙ ap length (sym h.1.2), ap begins_numeral is ∙ begins whole fraction t h.1.3 h.1.4 h.1.6)
  where
    always : (c : Bool) → (c || true) ≡ true
    always true = refl
    always false = refl

    begins : (whole fraction t : Text) → are_digits whole ≡ true → is_fraction class.Digit fraction ≡ true → (0 < length whole) ⊎ (1 < length fraction) → begins_numeral (whole ++ (fraction ++ t)) ≡ true
    begins (b ∷ whole) fraction t ds f some = ap (λ x. x || ((b == 46) && is_ascii_digit (next (whole ++ (fraction ++ t))))) (and_left (is_ascii_digit b) (are_digits whole) ds)
    begins [] [] t ds f some = absurd (⊎_elim (λ (h : 0 < 0). omega arith) (λ (h : 1 < 0). omega arith) some)
    begins [] (b ∷ []) t ds f some = absurd (⊎_elim (λ (h : 0 < 0). omega arith) (λ (h : 1 < 1). omega arith) some)
    begins [] (b ∷ c ∷ fs) t ds f some =
        let point = and_left (b == 46) (list_all is_ascii_digit (c ∷ fs)) f in
        let digit = and_left (is_ascii_digit c) (list_all is_ascii_digit fs) (and_right (b == 46) (list_all is_ascii_digit (c ∷ fs)) f) in
        (λ i. is_ascii_digit b || (point i && digit i)) ∙ always (is_ascii_digit b)
