-- A count is before a text exactly if the test says so.
use Rattle.std.proofs.Common.{◌≡◌, ℕ, suc, ◌+◌, ◌<◌, Bool, true, false, cond, ◌&&◌, ◌||◌, ◌==◌, [], ◌∷◌, ◌++◌, length, get_or, take, drop, refl, sym, ap, ◌∙◌, subst, inl, inr, ◌⊎◌, ⊎_elim, true≢false, arith}
use Rattle.std.specs.Prelude.{slice_index}
use Rattle.std.specs.Char.{is_ascii_digit}
use Rattle.std.specs.List.{list_all, prefix_len}
use Rattle.std.proofs.Math.Seq.{drop-append_seam}
use Rattle.std.proofs.lemmas.Bool.{cond_both, eqb-true}
use Rattle.std.proofs.lemmas.List.{take-append-drop}
use Rattle.promql_token.proofs.one_reading.Ends.{and_left, and_right, or_cases}
use Rattle.promql_token.proofs.printed.PrintedForms.{prefix_all}
use Rattle.promql_text.specs.Texts.{Text}
use Rattle.promql_label.specs.Repeats.{IsNumeral, OpensCount, exactly, at_least, between, after_digits, opens_count}

-- whether a count ends here, after its first digits
abbrev ends_count : Text → Bool
ends_count end = slice_index end 0 == 125 || slice_index end 0 == 44 && slice_index (after_digits (drop 1 end)) 0 == 125

-- ---- the test passes before a count

after_digits_is : (n r : Text) → list_all is_ascii_digit n ≡ true → is_ascii_digit (get_or r 0 0) ≡ false → after_digits (n ++ r) ≡ r
after_digits_is n r digits stop = ap (λ k. drop k (n ++ r)) (prefix_all is_ascii_digit n r digits stop) ∙ drop-append_seam n r

begins : (n r : Text) → IsNumeral n → is_ascii_digit (slice_index (n ++ r) 0) ≡ true
begins [] r numeral = absurd (omega (arith, numeral.0))
begins (b ∷ n) r numeral = and_left (is_ascii_digit b) (list_all is_ascii_digit n) numeral.1

count_after : (n r : Text) → IsNumeral n → is_ascii_digit (get_or r 0 0) ≡ false → ends_count r ≡ true → opens_count (n ++ r) ≡ true
count_after n r numeral stop ends =
    ap (λ digit. digit && ends_count (after_digits (n ++ r))) (begins n r numeral)
    ∙ ap ends_count (after_digits_is n r numeral.1 stop) ∙ ends

pub opens_count_of_relation : (z : Text) → OpensCount z → opens_count z ≡ true
opens_count_of_relation _ (exactly n z numeral) = count_after n (125 ∷ z) numeral refl refl
opens_count_of_relation _ (at_least n z numeral) = count_after n (44 ∷ 125 ∷ z) numeral refl refl
opens_count_of_relation _ (between n m z numeral more) =
    count_after n (44 ∷ (m ++ 125 ∷ z)) numeral refl
    (ap (λ e. slice_index e 0 == 125) (after_digits_is m (125 ∷ z) more.1 refl))

-- ---- where the test passes there is a count

taken_digits : (z : Text) → list_all is_ascii_digit (take (prefix_len is_ascii_digit z) z) ≡ true
taken_digits [] = refl
taken_digits (b ∷ z) =
    let k = prefix_len is_ascii_digit z in
    let next : 1 + k ≡ suc k = omega arith in
    let rest = taken_digits z in
    cond_both (is_ascii_digit b) _ _ (λ n. list_all is_ascii_digit (take n (b ∷ z)) ≡ true)
    (λ digit. ap (λ n. list_all is_ascii_digit (take n (b ∷ z))) next ∙ ap (λ t. t && list_all is_ascii_digit (take k z)) digit ∙ rest)
    (λ _. refl)

taken_numeral : (z : Text) → is_ascii_digit (slice_index z 0) ≡ true → IsNumeral (take (prefix_len is_ascii_digit z) z)
taken_numeral [] h = absurd (true≢false (sym h))
taken_numeral (b ∷ z) h =
    let k = prefix_len is_ascii_digit z in
    let next : suc k ≡ 1 + k = omega arith in
    let one_more : 0 < length (take (suc k) (b ∷ z)) = omega arith in
    (subst (λ t. 0 < length (take (cond t (1 + k) 0) (b ∷ z))) (sym h) (subst (λ n. 0 < length (take n (b ∷ z))) next one_more), taken_digits (b ∷ z))

no_digits : (z : Text) → is_ascii_digit (slice_index z 0) ≡ false → after_digits z ≡ z
no_digits [] h = refl
no_digits (b ∷ z) h = ap (λ t. drop (cond t (1 + prefix_len is_ascii_digit z) 0) (b ∷ z)) h

front : (b : ℕ) (e : Text) → (slice_index e 0 == suc b) ≡ true → (z : Text) × (e ≡ suc b ∷ z)
front b [] h = let zero_is : 0 ≡ suc b = eqb-true 0 (suc b) h in absurd (omega arith)
front b (c ∷ z) h = (z, ap (λ k. k ∷ z) (eqb-true c (suc b) h))

after_comma : (n z : Text) → IsNumeral n → (slice_index (after_digits z) 0 == 125) ≡ true → OpensCount (n ++ 44 ∷ z)
after_comma n z numeral h =
    let brace = front 124 (after_digits z) h in
    let m = take (prefix_len is_ascii_digit z) z in
    ⊎_elim
    (λ digit. subst (λ t. OpensCount (n ++ 44 ∷ t)) (ap (λ e. m ++ e) (sym brace.1) ∙ take-append-drop (prefix_len is_ascii_digit z) z)
    (between n m brace.0 numeral (taken_numeral z digit)))
    (λ none. subst (λ t. OpensCount (n ++ 44 ∷ t)) (sym brace.1 ∙ no_digits z none) (at_least n brace.0 numeral))
    (true_or_false (is_ascii_digit (slice_index z 0)))
  where
    true_or_false : (t : Bool) → (t ≡ true) ⊎ (t ≡ false)
    true_or_false true = inl refl
    true_or_false false = inr refl

after_numeral : (n e : Text) → IsNumeral n → ends_count e ≡ true → OpensCount (n ++ e)
after_numeral n e numeral ends =
    ⊎_elim
    (λ last. let brace = front 124 e last in subst (λ t. OpensCount (n ++ t)) (sym brace.1) (exactly n brace.0 numeral))
    (λ more. let comma = front 43 e (and_left (slice_index e 0 == 44) _ more) in
    let last = and_right (slice_index e 0 == 44) (slice_index (after_digits (drop 1 e)) 0 == 125) more in
    subst (λ t. OpensCount (n ++ t)) (sym comma.1)
    (after_comma n comma.0 numeral (subst (λ t. (slice_index (after_digits (drop 1 t)) 0 == 125) ≡ true) comma.1 last)))
    (or_cases (slice_index e 0 == 125) _ ends)

pub count_of : (z : Text) → opens_count z ≡ true → OpensCount z
count_of z h =
    let k = prefix_len is_ascii_digit z in
    let digit = and_left (is_ascii_digit (slice_index z 0)) (ends_count (after_digits z)) h in
    let ends = and_right (is_ascii_digit (slice_index z 0)) (ends_count (after_digits z)) h in
    subst OpensCount (take-append-drop k z) (after_numeral (take k z) (after_digits z) (taken_numeral z digit) ends)
