-- What a text begins with is what may begin there, or has the fault that is told.
use Rattle.std.proofs.Common.{◌≡◌, ℕ, suc, ◌+◌, true, false, cond, [], ◌∷◌, length, take, drop, Ok, Err, refl, sym, ap, ◌∙◌, subst, inl, inr, ⊎_elim, arith, zero-add}
use Rattle.std.specs.Prelude.{◌==◌, ◌&&◌, ◌||◌}
use Rattle.std.specs.Char.{is_ascii_digit}
use Rattle.std.specs.List.{prefix_len}
use Rattle.std.proofs.lemmas.Bool.{cond_both, eq-eqb}
use Rattle.std.proofs.lemmas.Grind.{common_steps}
use Rattle.promql_token.specs.declared.class.Class.{Class}
use Rattle.promql_token.specs.declared.class.Class.TheVariants as class
use Rattle.promql_token.specs.declared.fault.LexFaultKind.TheVariants.{Escape, EscapeAtEnd, OpenString}
use Rattle.promql_token.specs.declared.state.Bracket.{Bracket}
use Rattle.promql_token.specs.declared.state.Mode.{Mode}
use Rattle.promql_token.specs.declared.state.Mode.TheVariants as mode
use Rattle.promql_text.specs.Texts.{Text}
use Rattle.promql_token.specs.Begins.{IsName, IsNumeral, IsWord}
use Rattle.promql_token.specs.Classes.{is_in, is_letter, end_of_run}
use Rattle.promql_token.specs.Vocabulary.{next}
use Rattle.promql_token.specs.TokenScanning.{Scanned, begins_numeral, scan_in_mode, braces_id, in_braces, in_brackets, is_quote, numeral, outside, string, word, word_id, word_in_braces}
use Rattle.promql_token.specs.Printed.{holds_strings}
use Rattle.promql_token.proofs.cursors.TestsAndCounts.{and_both, or_false, by_bool}
use Rattle.promql_token.proofs.one_reading.Ends.{PieceEnds, digit_begins, numeral_ends}
use Rattle.promql_token.proofs.values.NumberParts.{in_none}
use Rattle.promql_token.proofs.values.Numerals.{NumeralSays, numeral_says}
use Rattle.promql_token.proofs.one_reading.Places.{past_moves}
use Rattle.promql_token.proofs.beginnings.PunctuatorRows.{Says, bang_in_braces_says, colon_says, comma_in_braces_says, equal_in_braces_says, right_brace_says, right_bracket_says, punctuator_says}
use Rattle.promql_token.proofs.printed.SpelledTokens.{first_byte, prefix_whole}
use Rattle.promql_token.proofs.values.Strings.{StringSays, string_says}

-- ---- words

-- the run at the front, as what is taken and what is left
past_all : (c : Class) (z : Text) → (end_of_run c (take (end_of_run c z 0) z) 0 == length (take (end_of_run c z 0) z)) ≡ true
past_all c z =
    let p = is_in c in
    let n = end_of_run c z 0 in
    let e : n ≡ prefix_len p z = zero-add (prefix_len p z) in
    eq-eqb _ _ (subst (λ k. 0 + prefix_len p (take k z) ≡ length (take k z)) (sym e) (zero-add _ ∙ prefix_whole p z))

past_stops : (c : Class) (z : Text) → is_in c (next (drop (end_of_run c z 0) z)) ≡ false
past_stops c z = subst (λ n. is_in c (next (drop n z)) ≡ false) (sym (zero-add (prefix_len (is_in c) z))) (stops z)
  where
    stops : (z : Text) → is_in c (next (drop (prefix_len (is_in c) z) z)) ≡ false
    stops [] = in_none c
    stops (b ∷ z) = by_bool (is_in c b)
        (λ first. let e : cond (is_in c b) (1 + prefix_len (is_in c) z) 0 ≡ suc (prefix_len (is_in c) z) = ap (λ x. cond x (1 + prefix_len (is_in c) z) 0) first ∙ omega arith in
        subst (λ n. is_in c (next (drop n (b ∷ z))) ≡ false) (sym e) (stops z))
        (λ first. let e : cond (is_in c b) (1 + prefix_len (is_in c) z) 0 ≡ 0 = ap (λ x. cond x (1 + prefix_len (is_in c) z) 0) first in
        subst (λ n. is_in c (next (drop n (b ∷ z))) ≡ false) (sym e) first)

in_word : (b : ℕ) → (is_letter b || (b == 58)) ≡ true → is_in class.Word b ≡ true
in_word b h = grind (arith, common_steps)

in_name : (b : ℕ) → is_letter b ≡ true → is_in class.Name b ≡ true
in_name b h = grind (arith, common_steps)

word_said : (b : ℕ) (y : Text) → (is_letter b || (b == 58)) ≡ true → let z = b ∷ y in let n = end_of_run class.Word z 0 in IsWord (word_id (take n z) (drop n z)) (take n z) (drop n z)
word_said b y h =
    let z : Text = b ∷ y in
    let n = end_of_run class.Word z 0 in
    let same = first_byte n z (past_moves class.Word z (omega arith) (in_word b h)) in
    (and_both _ _ (ap (λ b. is_letter b || (b == 58)) same ∙ h) (past_all class.Word z), past_stops class.Word z, refl)

name_said : (b : ℕ) (y : Text) → is_letter b ≡ true → let z = b ∷ y in let n = end_of_run class.Name z 0 in IsName (braces_id (take n z) (drop n z)) (take n z) (drop n z)
name_said b y h =
    let z : Text = b ∷ y in
    let n = end_of_run class.Name z 0 in
    let same = first_byte n z (past_moves class.Name z (omega arith) (in_name b h)) in
    (and_both _ _ (ap is_letter same ∙ h) (past_all class.Name z), past_stops class.Name z, refl)

-- ---- strings and numerals

string_in : (m : Mode) (depth b : ℕ) (y : Text) (p : Scanned) → holds_strings m ≡ true → ((id n : ℕ) → p ≡ Ok (id, n) → StringSays (b ∷ y) p → Says m depth (b ∷ y) p) → StringSays (b ∷ y) p → Says m depth (b ∷ y) p
string_in m depth b y (Ok t) holds token h = token t.0 t.1 refl h
string_in m depth b y (Err (Escape, n)) holds token h = (holds, h.0, h.1, h.2, h.3)
string_in m depth b y (Err (EscapeAtEnd, n)) holds token h = (holds, h.0, h.1, h.2)
string_in m depth b y (Err (OpenString, n)) holds token h =
    (holds, ap (λ n. take n (b ∷ y)) h.0, h.1, h.2, h.3, ap (λ n. drop n (b ∷ y)) h.0 ∙ h.4)
string_in m depth b y (Err f) holds token h = absurd h

string_outside : (depth b : ℕ) (y : Text) → is_quote b ≡ true → Says mode.Outside depth (b ∷ y) (string (b ∷ y))
string_outside depth b y quote = string_in mode.Outside depth b y (string (b ∷ y)) refl (λ id n is h. token (string (b ∷ y)) id n is h) (string_says b y quote)
  where
    token : (p : Scanned) (id n : ℕ) → p ≡ Ok (id, n) → StringSays (b ∷ y) p → Says mode.Outside depth (b ∷ y) p
    token (Ok t) id n is h = inr (inr (inr h))
    token (Err f) id n is h = absurd (cc)

string_in_braces : (depth b : ℕ) (y : Text) → is_quote b ≡ true → Says mode.Braces depth (b ∷ y) (string (b ∷ y))
string_in_braces depth b y quote = string_in mode.Braces depth b y (string (b ∷ y)) refl (λ id n is h. token (string (b ∷ y)) id n is h) (string_says b y quote)
  where
    token : (p : Scanned) (id n : ℕ) → p ≡ Ok (id, n) → StringSays (b ∷ y) p → Says mode.Braces depth (b ∷ y) p
    token (Ok t) id n is h = inr (inr h)
    token (Err f) id n is h = absurd (cc)

numeral_outside : (depth b : ℕ) (y : Text) → begins_numeral (b ∷ y) ≡ true → Says mode.Outside depth (b ∷ y) (numeral (b ∷ y))
numeral_outside depth b y begins = lift (numeral (b ∷ y)) (numeral_says (b ∷ y) begins)
  where
    lift : (p : Scanned) → NumeralSays (b ∷ y) p → Says mode.Outside depth (b ∷ y) p
    lift (Ok t) h = inr (inr (inl h))
    lift (Err f) h = subst (λ f. Says mode.Outside depth (b ∷ y) (Err f)) (sym h.0) (begins, h.1)

numeral_id : (id : ℕ) (w r : Text) → IsNumeral id w r → (id ≡ 6) → ⊥
numeral_id id w r h = ⊎_elim (λ n six. let no : 15 ≡ 6 = sym n.0 ∙ six in omega arith) (λ d six. let no : 5 ≡ 6 = sym d.0 ∙ six in omega arith) h.1

numeral_in_brackets : (inside : Bracket) (depth b : ℕ) (y : Text) → is_ascii_digit b ≡ true → Says (mode.Brackets inside) depth (b ∷ y) (numeral (b ∷ y))
numeral_in_brackets inside depth b y digit =
    let begins = digit_begins (b ∷ y) digit in
    lift (numeral (b ∷ y)) (numeral_says (b ∷ y) begins) (numeral_ends (b ∷ y) (omega arith) begins)
  where
    lift : (p : Scanned) → NumeralSays (b ∷ y) p → PieceEnds (b ∷ y) p → Says (mode.Brackets inside) depth (b ∷ y) p
    lift (Ok t) h e = inr (ap is_ascii_digit (first_byte t.1 (b ∷ y) (e.1 (numeral_id t.0 (take t.1 (b ∷ y)) (drop t.1 (b ∷ y)) h))) ∙ digit, h)
    lift (Err f) h e = subst (λ f. Says (mode.Brackets inside) depth (b ∷ y) (Err f)) (sym h.0) (digit, h.1)

-- ---- modes

no_word_byte : (b : ℕ) → is_ascii_digit b ≡ false → (is_letter b || (b == 58)) ≡ false → is_in class.Word b ≡ false
no_word_byte b digit letter = grind (arith, common_steps)

outside_said : (depth b : ℕ) (y : Text) → Says mode.Outside depth (b ∷ y) (outside depth (b ∷ y))
unfolding outside word
outside_said depth b y =
    let P = Says mode.Outside depth (b ∷ y) in
    cond_both (begins_numeral (b ∷ y)) _ _ P (λ begins. numeral_outside depth b y begins) (λ begins.
    cond_both (is_letter b || (b == 58)) _ _ P (λ letter. inr (inl (word_said b y letter))) (λ letter.
    cond_both (is_quote b) _ _ P (λ quote. string_outside depth b y quote) (λ quote.
    let no = or_false (is_ascii_digit b) ((b == 46) && is_ascii_digit (next y)) begins in
    punctuator_says depth b y (no_word_byte b no.0 letter) quote (λ point. sym (ap (λ c. c && is_ascii_digit (next y)) point) ∙ no.1))))

in_braces_said : (depth b : ℕ) (y : Text) → Says mode.Braces depth (b ∷ y) (in_braces (b ∷ y))
unfolding in_braces word_in_braces
in_braces_said depth b y =
    let P = Says mode.Braces depth (b ∷ y) in
    cond_both (b == 44) _ _ P (λ e. comma_in_braces_says depth b y e) (λ n44.
    cond_both (b == 61) _ _ P (λ e. equal_in_braces_says depth b y e) (λ n61.
    cond_both (b == 33) _ _ P (λ e. bang_in_braces_says depth b y e) (λ n33.
    cond_both (b == 123) _ _ P (λ e. (refl, e)) (λ n123.
    cond_both (b == 125) _ _ P (λ e. right_brace_says depth b y e) (λ n125.
    cond_both (is_letter b) _ _ P (λ letter. inr (inl (name_said b y letter))) (λ letter.
    cond_both (is_quote b) _ _ P (λ quote. string_in_braces depth b y quote) (λ quote.
    (refl, omega arith, (λ i. letter i || (quote i || (n44 i || (n61 i || (n33 i || (n123 i || (n125 i || false))))))))
    )))))))

in_brackets_said : (inside : Bracket) (depth b : ℕ) (y : Text) → Says (mode.Brackets inside) depth (b ∷ y) (in_brackets inside (b ∷ y))
unfolding in_brackets
in_brackets_said inside depth b y =
    let P = Says (mode.Brackets inside) depth (b ∷ y) in
    cond_both (b == 58) _ _ P (λ e. colon_says inside depth b y e) (λ n58.
    cond_both (b == 93) _ _ P (λ e. right_bracket_says inside depth b y e) (λ n93.
    cond_both (b == 91) _ _ P (λ e. (refl, e)) (λ n91.
    cond_both (is_ascii_digit b) _ _ P (λ digit. numeral_in_brackets inside depth b y digit) (λ digit.
    (refl, omega arith, (λ i. digit i || (n58 i || (n91 i || (n93 i || false)))))))))

pub begun_said : (m : Mode) (depth b : ℕ) (y : Text) → Says m depth (b ∷ y) (scan_in_mode m depth (b ∷ y))
begun_said mode.Outside depth b y = outside_said depth b y
begun_said mode.Braces depth b y = in_braces_said depth b y
begun_said (mode.Brackets inside) depth b y = in_brackets_said inside depth b y
