-- A quoted text is read as the characters that its spellings are for.
use Rattle.std.proofs.Common.{◌≡◌, ℕ, suc, ◌+◌, ◌-◌, ◌*◌, ◌<◌, ◌≤◌, true, cond, List, [], ◌∷◌, ◌++◌, length, drop, Some, None, Option, refl, sym, ap, ◌∙◌, inl, inr, ⊎_elim, lit<, append_assoc, arith}
use Rattle.std.specs.Prelude.{◌⊎◌, ◌==◌, nat_lt, nat_le, option_and_then, option_map, encode_utf8_all}
use Rattle.std.specs.Char.{encode_utf8, digit_value, IsScalar}
use lib.Utf8.{scalar}
use Rattle.std.specs.Str.Parse.{AllDigits, digits_value, digits_value_after}
use Rattle.std.proofs.lemmas.Bool.{cond-true, cond-false, cases_eq, eq-eqb, ne_eqb, lt-ltb, le-leb}
use Rattle.std.proofs.lemmas.Grind.{common_steps}
use Rattle.std.proofs.lemmas.Str.{encode_ascii}
use Rattle.std.proofs.Math.Seq.{drop-append_seam}
use Rattle.promql_text.specs.Texts.{Text}
use Rattle.promql_text.specs.Quoting.{is_quote, letter, number, escape, inside, unquoted_text}
use Rattle.promql_text.specs.Quoting as quoting
use Rattle.promql_text.specs.QuoteSpellings.{escape_digits, Spells, itself, own_quote, by_letter, octal, hexadecimal, AreSpelled, no_more, and_more, IsQuotedText}
use Rattle.promql_text.proofs.quoting.Quotes.{escape-own, escape-x, escape-u, escape-U, escape-octal, escape-letter}
use Rattle.promql_text.proofs.quoting.QuotedCharacters.{reads_between_backticks, reads_itself, reads_escape}

-- ---- digits

number-all : (base start : ℕ) (ds r : Text) → AllDigits base ds → number base (length ds) start (ds ++ r) ≡ Some (digits_value_after base start ds)
number-all base start [] r digits = refl
number-all base start (c ∷ ds) r digits =
    cond-true (nat_lt (digit_value c) base) _ _ (lt-ltb (digit_value c) base digits.0) ∙ number-all base (start * base + digit_value c) ds r digits.1

octal_digit : (b : ℕ) → digit_value b < 8 → (48 ≤ b) × (b ≤ 55) × (b - 48 ≡ digit_value b)
octal_digit b small = (grind (arith, common_steps), grind (arith, common_steps), grind (arith, common_steps))

-- ---- quotes and letters

-- a quote other than the backtick is no backslash, no letter, and comes before the digits
pub quote_low : (q : ℕ) → is_quote q ≡ true → (q ≡ 96 → ⊥) → q < 48
quote_low q is ticks = grind (arith, common_steps)

pub slash_no_quote : (q : ℕ) → is_quote q ≡ true → 92 ≡ q → ⊥
slash_no_quote q is e = grind (arith, common_steps)

letter_low : (b : ℕ) → b < 56 → letter b ≡ None
letter_low b low = grind (arith, common_steps)

letter_apart : (b d c : ℕ) → letter d ≡ None → letter b ≡ Some c → b ≡ d → ⊥
letter_apart b d c none some e = none_some c (sym none ∙ ap letter (sym e) ∙ some)
  where
    none_some : (c : ℕ) → ◌≡◌ {A = Option ℕ} None (Some c) → ⊥
    none_some c e = cc

-- ---- an escape

escape_reads : (quote c len : ℕ) (old new : Text) → is_quote quote ≡ true → (quote ≡ 96 → ⊥) → escape quote old ≡ Some (c, len) → new ≡ drop len old → inside quote 0 (92 ∷ old) ≡ option_map (λ more. encode_utf8 c ++ more) (inside quote 0 new)
escape_reads quote c len old new is ticks reads rest =
    ap (λ e. inside quote 0 (e ++ old)) (sym (encode_ascii 92 (lit< tt)))
    ∙ reads_escape quote old new (Some c) ticks (slash_no_quote quote is) (len, reads, rest)

letter_reads : (quote b c : ℕ) (r : Text) → is_quote quote ≡ true → (quote ≡ 96 → ⊥) → letter b ≡ Some c → escape quote (b ∷ r) ≡ Some (c, 1)
letter_reads quote b c r is ticks says =
    escape-letter quote r b (letter_apart b quote c (letter_low quote (omega (arith, quote_low quote is ticks))) says)
    (letter_apart b 120 c refl says) (letter_apart b 117 c refl says) (letter_apart b 85 c refl says)
    (λ low high. letter_apart b b c (letter_low b (omega arith)) says refl)
    ∙ ap (option_map (λ c. (c, 1))) says

octal_reads : (quote x y z c : ℕ) (r : Text) → is_quote quote ≡ true → (quote ≡ 96 → ⊥) → AllDigits 8 (x ∷ y ∷ z ∷ []) → digits_value 8 (x ∷ y ∷ z ∷ []) ≡ c → c ≤ 255 → escape quote (x ∷ y ∷ z ∷ r) ≡ Some (c, 3)
octal_reads quote x y z c r is ticks digits value small =
    let first = octal_digit x digits.0 in
    let number_is : number 8 2 (x - 48) (y ∷ z ∷ r) ≡ Some c =
    number-all 8 (x - 48) (y ∷ z ∷ []) r digits.1
    ∙ ap (λ n. Some (digits_value_after 8 n (y ∷ z ∷ []))) (let e : x - 48 ≡ 0 * 8 + digit_value x = omega (arith, first.2) in e)
    ∙ ap Some value
    in
    escape-octal quote (y ∷ z ∷ r) x (λ e. absurd (omega (arith, quote_low quote is ticks, first.0))) first.0 first.1
    ∙ ap (option_and_then (λ c. cond (nat_le c 255) (Some (c, 3)) None)) number_is
    ∙ cond-true (nat_le c 255) _ _ (le-leb c 255 small)

hexadecimal_reads : (n c : ℕ) (ds r : Text) → length ds ≡ n → AllDigits 16 ds → digits_value 16 ds ≡ c → IsScalar c → quoting.hexadecimal n (ds ++ r) ≡ Some (c, n + 1)
hexadecimal_reads n c ds r len digits value is =
    ap (option_and_then (λ c. cond (scalar c) (Some (c, n + 1)) None))
    (ap (λ n. number 16 n 0 (ds ++ r)) (sym len) ∙ number-all 16 0 ds r digits ∙ ap Some value)
    ∙ cond-true (scalar c) _ _ is

-- which letter comes before how many digits
escape_digits_cases : (b n : ℕ) → escape_digits b ≡ Some n → ((b ≡ 120) × (n ≡ 2)) ⊎ (((b ≡ 117) × (n ≡ 4)) ⊎ ((b ≡ 85) × (n ≡ 8)))
escape_digits_cases b n is =
    ⊎_elim
    (λ (x : b ≡ 120). inl (x, sym (same 2 n (sym (ap escape_digits x) ∙ is))))
    (λ (no_x : b ≡ 120 → ⊥). ⊎_elim
    (λ (u : b ≡ 117). inr (inl (u, sym (same 4 n (sym (ap escape_digits u) ∙ is)))))
    (λ (no_u : b ≡ 117 → ⊥). ⊎_elim
    (λ (U : b ≡ 85). inr (inr (U, sym (same 8 n (sym (ap escape_digits U) ∙ is)))))
    (λ (no_U : b ≡ 85 → ⊥). absurd (nothing n (sym (none b no_x no_u no_U) ∙ is)))
    (cases_eq b 85))
    (cases_eq b 117))
    (cases_eq b 120)
  where
    same : (m n : ℕ) → ◌≡◌ {A = Option ℕ} (Some m) (Some n) → m ≡ n
    same m n e = cc

    nothing : (n : ℕ) → ◌≡◌ {A = Option ℕ} None (Some n) → ⊥
    nothing n e = cc

    none : (b : ℕ) → (b ≡ 120 → ⊥) → (b ≡ 117 → ⊥) → (b ≡ 85 → ⊥) → escape_digits b ≡ None
    none b x u U = cond-false (b == 120) _ _ (ne_eqb b 120 x) ∙ cond-false (b == 117) _ _ (ne_eqb b 117 u) ∙ cond-false (b == 85) _ _ (ne_eqb b 85 U)

-- what comes after a letter and its digits is left
escape_rest : (b n : ℕ) (ds r : Text) → length ds ≡ n → r ≡ drop (n + 1) (b ∷ (ds ++ r))
escape_rest b n ds r len =
    sym (ap (λ k. drop k (b ∷ (ds ++ r))) (let e : n + 1 ≡ suc n = omega arith in e) ∙ ap (λ k. drop k (ds ++ r)) (sym len) ∙ drop-append_seam ds r)

digits_escape_reads : (quote b c : ℕ) (ds r : Text) → is_quote quote ≡ true → (quote ≡ 96 → ⊥) → escape_digits b ≡ Some (length ds) → AllDigits 16 ds → digits_value 16 ds ≡ c → IsScalar c → escape quote (b ∷ (ds ++ r)) ≡ Some (c, length ds + 1)
digits_escape_reads quote b c ds r is ticks count digits value character =
    let low = quote_low quote is ticks in
    let code = λ (n : ℕ) (len : length ds ≡ n). hexadecimal_reads n c ds r len digits value character ∙ ap (λ k. Some (c, k + 1)) (sym len) in
    ⊎_elim
    (λ x. ap (λ b. escape quote (b ∷ (ds ++ r))) x.0 ∙ escape-x quote (ds ++ r) (λ e. absurd (omega arith)) ∙ code 2 x.1)
    (λ other. ⊎_elim
    (λ u. ap (λ b. escape quote (b ∷ (ds ++ r))) u.0 ∙ escape-u quote (ds ++ r) (λ e. absurd (omega arith)) ∙ code 4 u.1)
    (λ U. ap (λ b. escape quote (b ∷ (ds ++ r))) U.0 ∙ escape-U quote (ds ++ r) (λ e. absurd (omega arith)) ∙ code 8 U.1)
    other)
    (escape_digits_cases b (length ds) count)

-- ---- a spelling, and all of them

spelling_reads : (quote : ℕ) (w : Text) (c : ℕ) (r : Text) → is_quote quote ≡ true → Spells quote w c → inside quote 0 (w ++ r) ≡ option_map (λ more. encode_utf8 c ++ more) (inside quote 0 r)
spelling_reads quote _ _ r is (itself c scalar_c other plain) =
    ⊎_elim
    (λ (ticks : quote ≡ 96). reads_between_backticks quote c r ticks other)
    (λ (no : quote ≡ 96 → ⊥). reads_itself quote c r is other (plain no).0 (plain no).1)
    (cases_eq quote 96)
spelling_reads quote _ _ r is (own_quote ticks) = escape_reads quote quote 1 (quote ∷ r) r is ticks (escape-own quote r) refl
spelling_reads quote _ _ r is (by_letter b c ticks says) = escape_reads quote c 1 (b ∷ r) r is ticks (letter_reads quote b c r is ticks says) refl
spelling_reads quote _ _ r is (octal x y z c ticks digits value small) =
    escape_reads quote c 3 (x ∷ y ∷ z ∷ r) r is ticks (octal_reads quote x y z c r is ticks digits value small) refl
spelling_reads quote _ _ r is (hexadecimal b c ds ticks count digits value character) =
    escape_reads quote c (length ds + 1) (b ∷ (ds ++ r)) r is ticks
    (digits_escape_reads quote b c ds r is ticks count digits value character) (escape_rest b (length ds) ds r refl)

all_read : (quote : ℕ) (z : Text) (cs : List ℕ) → is_quote quote ≡ true → AreSpelled quote z cs → inside quote 0 (z ++ quote ∷ []) ≡ Some (encode_utf8_all cs)
all_read quote _ _ is no_more = cond-true (quote == quote) _ _ (eq-eqb quote quote refl)
all_read quote _ _ is (and_more w z c cs spells spelled) =
    let r : Text = z ++ quote ∷ [] in
    ap (inside quote 0) (append_assoc w z (quote ∷ []))
    ∙ spelling_reads quote w c r is spells
    ∙ ap (option_map (λ more. encode_utf8 c ++ more)) (all_read quote z cs is spelled)

pub quoted_text_is_read : (s : Text) (cs : List ℕ) → IsQuotedText s cs → unquoted_text s ≡ Some (encode_utf8_all cs)
unfolding unquoted_text
quoted_text_is_read s cs q = ap unquoted_text q.4 ∙ cond-true (is_quote q.0) _ _ q.2 ∙ all_read q.0 q.1 cs q.2 q.3
