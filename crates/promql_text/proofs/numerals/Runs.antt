-- Runs of digits.
use Rattle.std.proofs.Common.{◌≡◌, ℕ, Bool, true, false, ◌∷◌, [], ◌++◌, cond, ap, ◌∙◌, refl, drop, take, length, arith, suc, ◌+◌, ◌<◌}
use Rattle.std.specs.Char.{is_ascii_digit, digit_value}
use Rattle.std.specs.List.{prefix_len}
use Rattle.std.specs.Str.Parse.{AllDigits}
use Rattle.std.proofs.lemmas.Bool.Decides.{nat_tests}
use Rattle.std.proofs.lemmas.Str.Parse.{digit_from_value}
use Rattle.promql_text.specs.Texts.{Text}
use Rattle.promql_text.specs.DecimalForm.{front, past_run, digit_run}

one_more : (n : ℕ) → 1 + n ≡ suc n
one_more n = grind arith

pub past_run_digit : (c : ℕ) (z : Text) → is_ascii_digit c ≡ true → past_run (c ∷ z) ≡ past_run z
past_run_digit c z is = ap (λ b. drop (cond b (1 + prefix_len is_ascii_digit z) 0) (c ∷ z)) is ∙ ap (λ n. drop n (c ∷ z)) (one_more (prefix_len is_ascii_digit z))

pub past_run_other : (c : ℕ) (z : Text) → is_ascii_digit c ≡ false → past_run (c ∷ z) ≡ c ∷ z
past_run_other c z is = ap (λ b. drop (cond b (1 + prefix_len is_ascii_digit z) 0) (c ∷ z)) is

pub digit_run_digit : (c : ℕ) (z : Text) → is_ascii_digit c ≡ true → digit_run (c ∷ z) ≡ c ∷ digit_run z
digit_run_digit c z is = ap (λ b. take (cond b (1 + prefix_len is_ascii_digit z) 0) (c ∷ z)) is ∙ ap (λ n. take n (c ∷ z)) (one_more (prefix_len is_ascii_digit z))

pub digit_run_other : (c : ℕ) (z : Text) → is_ascii_digit c ≡ false → digit_run (c ∷ z) ≡ []
digit_run_other c z is = ap (λ b. take (cond b (1 + prefix_len is_ascii_digit z) 0) (c ∷ z)) is

pub digit_value_below : (c : ℕ) → is_ascii_digit c ≡ true → digit_value c < 10
digit_value_below c is = grind (arith, nat_tests)

-- a run has digits alone
run_at : (c : ℕ) (z : Text) (b : Bool) → is_ascii_digit c ≡ b → AllDigits 10 (digit_run z) → AllDigits 10 (digit_run (c ∷ z))
run_at c z true is rest = rw (digit_run_digit c z is) (digit_value_below c is, rest)
run_at c z false is rest = rw (digit_run_other c z is) tt

pub run_digits : (z : Text) → AllDigits 10 (digit_run z)
run_digits [] = tt
run_digits (c ∷ z) = run_at c z (is_ascii_digit c) refl (run_digits z)

-- a run is as long as it says
pub take_run : (z : Text) → take (length (digit_run z)) z ≡ digit_run z
take_run [] = refl
take_run (c ∷ z) = take_at c z (is_ascii_digit c) refl (take_run z)
  where
    take_at : (c : ℕ) (z : Text) (b : Bool) → is_ascii_digit c ≡ b → take (length (digit_run z)) z ≡ digit_run z → take (length (digit_run (c ∷ z))) (c ∷ z) ≡ digit_run (c ∷ z)
    take_at c z true is rest = rw (digit_run_digit c z is) (ap (λ r. c ∷ r) rest)
    take_at c z false is rest = rw (digit_run_other c z is) refl

-- ---- digits and what follows them

is_digit : (c : ℕ) → digit_value c < 10 → is_ascii_digit c ≡ true
is_digit c below = let h = digit_from_value c below in grind (arith, nat_tests)

pub run_stops : (r : Text) → is_ascii_digit (front r) ≡ false → digit_run r ≡ []
run_stops [] stops = refl
run_stops (c ∷ r) stops = digit_run_other c r stops

pub past_stops : (r : Text) → is_ascii_digit (front r) ≡ false → past_run r ≡ r
past_stops [] stops = refl
past_stops (c ∷ r) stops = past_run_other c r stops

pub run_append : (ds r : Text) → AllDigits 10 ds → is_ascii_digit (front r) ≡ false → digit_run (ds ++ r) ≡ ds
run_append [] r digits stops = run_stops r stops
run_append (c ∷ cs) r digits stops = digit_run_digit c (cs ++ r) (is_digit c digits.0) ∙ ap (λ z. c ∷ z) (run_append cs r digits.1 stops)

pub past_append : (ds r : Text) → AllDigits 10 ds → is_ascii_digit (front r) ≡ false → past_run (ds ++ r) ≡ r
past_append [] r digits stops = past_stops r stops
past_append (c ∷ cs) r digits stops = past_run_digit c (cs ++ r) (is_digit c digits.0) ∙ past_append cs r digits.1 stops

pub past_all : (ds : Text) → AllDigits 10 ds → past_run ds ≡ []
past_all [] digits = refl
past_all (c ∷ cs) digits = past_run_digit c cs (is_digit c digits.0) ∙ past_all cs digits.1

pub run_all : (ds : Text) → AllDigits 10 ds → digit_run ds ≡ ds
run_all [] digits = refl
run_all (c ∷ cs) digits = digit_run_digit c cs (is_digit c digits.0) ∙ ap (λ z. c ∷ z) (run_all cs digits.1)

pub front_digit : (ds r : Text) → 0 < length ds → AllDigits 10 ds → is_ascii_digit (front (ds ++ r)) ≡ true
front_digit [] r some digits = absurd (omega arith)
front_digit (c ∷ cs) r some digits = is_digit c digits.0
