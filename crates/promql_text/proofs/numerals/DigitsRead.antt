-- What is kept of digits that were read.
use Rattle.std.proofs.Common.{◌≡◌, ℕ, zero, suc, ◌+◌, ◌-◌, ◌*◌, ◌%◌, ◌^◌, ◌<◌, ◌≤◌, [], ◌∷◌, ◌++◌, length, get_or, take, drop, sym, ap, ◌∙◌, subst, ⊎_elim, lit<, length-append, length-drop, arith}
use Rattle.std.specs.Prelude.{nat_le}
use Rattle.std.specs.Char.{digit_value}
use Rattle.std.specs.Str.Parse.{digits_value, AllDigits}
use Rattle.std.proofs.lemmas.Bool.{cond-true, cond-false, cases_lt, le-leb, lt-leb}
use Rattle.std.proofs.lemmas.Grind.{common_steps, take_at_read}
use Rattle.std.proofs.lemmas.Int.Digits.{digits_value_push, digits_value-lt}
use Rattle.std.proofs.lemmas.List.{take_all, take-append-le, take-append-drop, drop-append-le, drop_all}
use Rattle.std.proofs.Math.Nat.{pow-suc}
use Rattle.promql_text.specs.Texts.{Text}
use Rattle.promql_text.specs.Durations.{round_half_even, nearest}
use Rattle.promql_text.specs.DurationReaders.{cap_u128}
use Rattle.promql_text.specs.Rounding.{at_point, Compares, IsTail, ComparesHalf, HasRead}
use Rattle.promql_text.specs.declared.seconds.Digits.{Digits}
use Rattle.promql_text.specs.declared.seconds.RoundingTail.{RoundingTail}
use Rattle.promql_text.specs.declared.seconds.RoundingTail.TheVariants.{Empty, Below, Half, Above}
use Rattle.promql_text.proofs.durations.RoundedQuotients.{rounded_down, rounded_even, rounded_up, nearest_parts, digits_value-append, capped_times}

-- ---- a half

length_push : (ds : Text) (c : ℕ) → length (ds ++ (c ∷ [])) ≡ suc (length ds)
length_push ds c = omega (arith, length-append ds (c ∷ []))

-- what a tail is, if it isn't empty
tail_is : (t : RoundingTail) (ds : Text) → IsTail t ds → ComparesHalf t ds
tail_is Empty ds is = absurd is.1
tail_is Below ds is = is
tail_is Half ds is = is
tail_is Above ds is = is

-- the first digit after the point
pub half_first : (t : RoundingTail) (ds : Text) (c digit : ℕ) → digit_value c ≡ digit → length ds ≡ 0 → Compares t digit 5 → ComparesHalf t (ds ++ (c ∷ []))
half_first t [] c digit is none compares =
    let value : digits_value 10 (c ∷ []) ≡ digit = omega (arith, is) in
    tail_is t (c ∷ []) (lit< tt, subst (λ v. Compares t v 5) (sym value) compares)
half_first t (b ∷ ds) c digit is none compares = absurd (omega arith)

half_more : (o p : RoundingTail) (ds : Text) (c digit : ℕ) → digit_value c ≡ digit → ((v h : ℕ) → Compares o v h → Compares p (v * 10 + digit) (h * 10)) → IsTail o ds → IsTail p (ds ++ (c ∷ []))
half_more o p ds c digit is step half =
    let v : ℕ = digits_value 10 ds in
    let h : ℕ = 5 * 10 ^ (length ds - 1) in
    let value : digits_value 10 (ds ++ (c ∷ [])) ≡ v * 10 + digit = digits_value_push 10 ds c ∙ ap (λ d. v * 10 + d) is in
    let longer : length (ds ++ (c ∷ [])) - 1 ≡ suc (length ds - 1) = omega (arith, length_push ds c, half.0) in
    let tens : 5 * 10 ^ (length (ds ++ (c ∷ [])) - 1) ≡ h * 10 =
    ap (λ n. 5 * 10 ^ n) longer
    ∙ ap (λ q. 5 * q) (pow-suc 10 (length ds - 1))
    ∙ (let e : 5 * (10 ^ (length ds - 1) * 10) ≡ 5 * 10 ^ (length ds - 1) * 10 = omega arith in e)
    in
    (omega (arith, length_push ds c), subst (λ x. Compares p x (5 * 10 ^ (length (ds ++ (c ∷ [])) - 1))) (sym value) (subst (λ x. Compares p (v * 10 + digit) x) (sym tens) (step v h half.1)))

pub below_more : (ds : Text) (c digit : ℕ) → digit_value c ≡ digit → digit < 10 → IsTail Below ds → IsTail Below (ds ++ (c ∷ []))
below_more ds c digit is small = half_more Below Below ds c digit is (λ v h below. omega arith)

pub half_still : (ds : Text) (c digit : ℕ) → digit_value c ≡ digit → digit ≡ 0 → IsTail Half ds → IsTail Half (ds ++ (c ∷ []))
half_still ds c digit is zero_is = half_more Half Half ds c digit is (λ v h same. omega arith)

pub half_passed : (ds : Text) (c digit : ℕ) → digit_value c ≡ digit → 0 < digit → IsTail Half ds → IsTail Above (ds ++ (c ∷ []))
half_passed ds c digit is some = half_more Half Above ds c digit is (λ v h same. omega arith)

pub above_more : (ds : Text) (c digit : ℕ) → digit_value c ≡ digit → IsTail Above ds → IsTail Above (ds ++ (c ∷ []))
above_more ds c digit is = half_more Above Above ds c digit is (λ v h above. omega arith)

-- ---- one more digit

-- before the point
pub push_before : (n : ℕ) (ds : Text) (c digit : ℕ) (old new : Digits) → digit_value c ≡ digit → 0 < old.to_point → new.to_point ≡ old.to_point - 1 → new.whole ≡ cap_u128 (cap_u128 (old.whole * 10) + digit) → new.tail ≡ old.tail → HasRead n ds old → HasRead n (ds ++ (c ∷ [])) new
push_before n ds c digit old new is before to whole half read =
    let more : Text = ds ++ (c ∷ []) in
    let room : length more ≤ n = omega (arith, before, read.to_point, length_push ds c) in
    let all : take n ds ≡ ds = take_all n ds (omega (arith, length_push ds c)) in
    let all_more : take n more ≡ more = take_all n more room in
    let none : drop n ds ≡ [] = drop_all n ds (omega (arith, length_push ds c)) in
    let none_more : drop n more ≡ [] = drop_all n more room in
    let value : digits_value 10 (take n more) ≡ digits_value 10 ds * 10 + digit = ap (digits_value 10) all_more ∙ digits_value_push 10 ds c ∙ ap (λ d. digits_value 10 ds * 10 + d) is in
    let had : old.whole ≡ cap_u128 (digits_value 10 ds) = read.whole ∙ ap (λ ds. cap_u128 (digits_value 10 ds)) all in
    record {
      to_point = omega (arith, to, read.to_point, length_push ds c);
      whole = whole ∙ ap (λ w. cap_u128 (cap_u128 (w * 10) + digit)) had ∙ capped_digit (digits_value 10 ds) digit ∙ ap cap_u128 (sym value);
      tail = subst (λ h. ComparesHalf h (drop n more)) (sym half) (subst (λ t. ComparesHalf old.tail t) (none ∙ sym none_more) read.tail);
    }
  where
    capped_digit : (v d : ℕ) → cap_u128 (cap_u128 (cap_u128 v * 10) + d) ≡ cap_u128 (v * 10 + d)
    capped_digit v d = omega arith

-- after it
pub push_past_point : (n : ℕ) (ds : Text) (c : ℕ) (t : RoundingTail) (old new : Digits) → old.to_point ≡ 0 → new.to_point ≡ old.to_point → new.whole ≡ old.whole → new.tail ≡ t → (ComparesHalf old.tail (drop n ds) → ComparesHalf t (drop n ds ++ (c ∷ []))) → HasRead n ds old → HasRead n (ds ++ (c ∷ [])) new
push_past_point n ds c t old new past_point to whole half compares read =
    let past : n ≤ length ds = omega (arith, read.to_point, past_point) in
    record {
      to_point = omega (arith, to, past_point, read.to_point, length_push ds c);
      whole = whole ∙ read.whole ∙ ap (λ ds. cap_u128 (digits_value 10 ds)) (sym (take-append-le n ds (c ∷ []) past));
      tail = subst (λ h. ComparesHalf h (drop n (ds ++ (c ∷ [])))) (sym half) (subst (λ x. ComparesHalf t x) (sym (drop-append-le n ds (c ∷ []) past)) (compares read.tail));
    }

-- ---- the end

capped_up : (w : ℕ) → cap_u128 (cap_u128 w + 1) ≡ cap_u128 (w + 1)
capped_up w = omega arith

capped_even : (w : ℕ) → cap_u128 (cap_u128 w + cap_u128 w % 2) ≡ cap_u128 (w + w % 2)
capped_even w =
    ⊎_elim
    (λ (small : w < 2 ^ 128). ap (λ x. cap_u128 (x + x % 2)) (let e : cap_u128 w ≡ w = omega arith in e))
    (λ (big : 2 ^ 128 ≤ w). omega arith)
    (cases_lt w (2 ^ 128))

-- no digit after the point
pub finish_none : (n : ℕ) (ds : Text) (d : Digits) → d.tail ≡ Empty → HasRead n ds d → cap_u128 (d.whole * 10 ^ d.to_point) ≡ cap_u128 (at_point n ds)
unfolding at_point
finish_none n ds d tail read =
    let none : length (drop n ds) ≡ 0 = subst (λ h. ComparesHalf h (drop n ds)) tail read.tail in
    let within : length ds ≤ n = omega (arith, length-drop n ds) in
    let v : ℕ = digits_value 10 ds in
    let whole : d.whole ≡ cap_u128 v = read.whole ∙ ap (λ ds. cap_u128 (digits_value 10 ds)) (take_all n ds within) in
    let p : ℕ = 10 ^ (n - length ds) in
    ap (λ w. cap_u128 (w * 10 ^ d.to_point)) whole ∙ ap (λ k. cap_u128 (cap_u128 v * 10 ^ k)) read.to_point
    ∙ ap cap_u128 (let e : cap_u128 v * p ≡ p * cap_u128 v = omega arith in e) ∙ capped_times p v
    ∙ ap cap_u128 (let e : p * v ≡ v * p = omega arith in e)
    ∙ ap cap_u128 (sym (cond-true (nat_le (length ds) n) _ _ (le-leb (length ds) n within)))

-- the whole number that is nearest
abbrev round_by_tail : RoundingTail → ℕ → ℕ
round_by_tail Empty w = w
round_by_tail Below w = w
round_by_tail Half w = w + w % 2
round_by_tail Above w = w + 1

moved_is : (t : RoundingTail) (w r h : ℕ) → Compares t r h → round_half_even w r (h * 2) ≡ round_by_tail t w
moved_is Empty w r h never = absurd never
moved_is Below w r h below = rounded_down w r (h * 2) (omega arith)
moved_is Half w r h same = rounded_even w r (h * 2) (omega arith)
moved_is Above w r h above = rounded_up w r (h * 2) (omega arith)

-- digits after the point
finish_some : (n : ℕ) (ds : Text) (t : RoundingTail) → AllDigits 10 ds → IsTail t (drop n ds) → cap_u128 (round_by_tail t (digits_value 10 (take n ds))) ≡ cap_u128 (at_point n ds)
unfolding at_point
finish_some n ds tail digits past_point =
    let t : Text = drop n ds in
    let past : n < length ds = omega (arith, length-drop n ds, past_point.0) in
    let m : ℕ = length t in
    let h : ℕ = 5 * 10 ^ (m - 1) in
    let w : ℕ = digits_value 10 (take n ds) in
    let r : ℕ = digits_value 10 t in
    let one_more : m ≡ suc (m - 1) = omega (arith, past_point.0) in
    let twice : 10 ^ m ≡ h * 2 = ap (λ k. 10 ^ k) one_more ∙ pow-suc 10 (m - 1) ∙ (let e : 10 ^ (m - 1) * 10 ≡ 5 * 10 ^ (m - 1) * 2 = omega arith in e) in
    let parts : digits_value 10 ds ≡ w * 10 ^ m + r = ap (digits_value 10) (sym (take-append-drop n ds)) ∙ digits_value-append (take n ds) t in
    let below : r < 10 ^ m = digits_value-lt 10 t (digits_drop n ds digits) in
    ap cap_u128 (sym (moved_is tail w r h past_point.1)
    ∙ ap (round_half_even w r) (sym twice) ∙ sym (nearest_parts w (10 ^ m) r below)
    ∙ ap (λ v. nearest v (10 ^ m)) (sym parts)
    ∙ ap (λ k. nearest (digits_value 10 ds) (10 ^ k)) (length-drop n ds)
    ∙ sym (cond-false (nat_le (length ds) n) _ _ (lt-leb (length ds) n past)))
  where
    digits_drop : (n : ℕ) (ds : Text) → AllDigits 10 ds → AllDigits 10 (drop n ds)
    digits_drop zero ds h = h
    digits_drop (suc n) [] h = tt
    digits_drop (suc n) (c ∷ ds) h = digits_drop n ds h.1

pub finish_below : (n : ℕ) (ds : Text) (d : Digits) → d.tail ≡ Below → AllDigits 10 ds → HasRead n ds d → d.whole ≡ cap_u128 (at_point n ds)
finish_below n ds d tail digits read = read.whole ∙ finish_some n ds Below digits (subst (λ h. ComparesHalf h (drop n ds)) tail read.tail)

pub finish_half : (n : ℕ) (ds : Text) (d : Digits) → d.tail ≡ Half → AllDigits 10 ds → HasRead n ds d → cap_u128 (d.whole + d.whole % 2) ≡ cap_u128 (at_point n ds)
finish_half n ds d tail digits read =
    ap (λ w. cap_u128 (w + w % 2)) read.whole ∙ capped_even (digits_value 10 (take n ds)) ∙ finish_some n ds Half digits (subst (λ h. ComparesHalf h (drop n ds)) tail read.tail)

pub finish_above : (n : ℕ) (ds : Text) (d : Digits) → d.tail ≡ Above → AllDigits 10 ds → HasRead n ds d → cap_u128 (d.whole + 1) ≡ cap_u128 (at_point n ds)
finish_above n ds d tail digits read =
    ap (λ w. cap_u128 (w + 1)) read.whole ∙ capped_up (digits_value 10 (take n ds)) ∙ finish_some n ds Above digits (subst (λ h. ComparesHalf h (drop n ds)) tail read.tail)

-- ---- reading digits

pub more_taken : (ds : Text) (i : ℕ) → i < length ds → take (i + 1) ds ≡ take i ds ++ (get_or ds i 0 ∷ [])
more_taken ds i h = (take_at_read ds i 0 h).1

pub digit_is : (b : ℕ) → 48 ≤ b → b ≤ 57 → digit_value b ≡ b - 48
digit_is b low high = grind (arith, common_steps)
