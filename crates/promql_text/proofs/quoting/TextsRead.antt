-- What is read is a quoted text: the spellings of a text that is unquoted.
use Rattle.std.proofs.Common.{◌≡◌, ℕ, zero, suc, ◌+◌, ◌-◌, ◌*◌, ◌<◌, ◌≤◌, Bool, true, false, cond, List, [], ◌∷◌, ◌++◌, length, drop, Some, None, Option, refl, sym, ap, ◌∙◌, subst, ⊎_elim, lit<, append_assoc, length-append, arith}
use Rattle.std.specs.Prelude.{⊤, ◌==◌, nat_lt, nat_le, option_and_then, option_map, encode_utf8_all}
use Rattle.std.specs.Char.{encode_utf8, digit_value, IsScalar}
use Rattle.std.specs.Str.{IsUtf8}
use Rattle.std.specs.Str.Parse.{AllDigits, digits_value_after}
use Rattle.std.proofs.lemmas.Bool.{cond-true, cond-false, cases_lt, cases_eq, cases_Bool, eq-eqb, ne_eqb, ltb-true, leb-true, and_parts}
use Rattle.std.proofs.lemmas.Grind.{common_steps}
use Rattle.std.proofs.lemmas.Str.{encode_ascii, length-encode, len_utf8_bounds, IsUtf8-past_char}
use Rattle.std.proofs.Math.Seq.{drop-append_seam}
use lib.Utf8.{scalar, scalars}
use Rattle.promql_text.specs.Texts.{Text}
use Rattle.promql_text.specs.Quoting.{is_quote, letter, number, escape, inside, unquoted_text}
use Rattle.promql_text.specs.Quoting as quoting
use Rattle.promql_text.specs.QuoteSpellings.{escape_digits, Spells, itself, own_quote, by_letter, octal, hexadecimal, AreSpelled, no_more, and_more, IsQuotedText}
use Rattle.promql_text.proofs.quoting.Quotes.{escape-own, escape-x, escape-u, escape-U, escape-octal, escape-letter}
use Rattle.promql_text.proofs.quoting.QuotedTexts.{slash_no_quote}
use Rattle.promql_text.proofs.quoting.QuotedCharacters.{reads_between_backticks, reads_itself, slash_reads, inside-passed, closes, letter_past}

-- ---- answers that are there

none_some : {X : Type 0} {x : X} → ◌≡◌ {A = Option X} None (Some x) → ⊥
none_some e = cc

some_same : {X : Type 0} {x y : X} → ◌≡◌ {A = Option X} (Some x) (Some y) → x ≡ y
some_same e = cc

-- ---- digits

-- the digits that were read, and what is left
record Digits (base n start c : ℕ) (z : Text) : Type 0 where
  digits : Text
  rest : Text
  len : length digits ≡ n
  all : AllDigits base digits
  value : digits_value_after base start digits ≡ c
  front : z ≡ digits ++ rest

more_digits : (base n start c b : ℕ) (z : Text) → digit_value b < base → Digits base n (start * base + digit_value b) c z → Digits base (suc n) start c (b ∷ z)
more_digits base n start c b z small found = record {
  digits = b ∷ found.digits;
  rest = found.rest;
  len = ap suc found.len;
  all = (small, found.all);
  value = found.value;
  front = ap (λ t. b ∷ t) found.front;
}

digits_found : (base n start c : ℕ) (z : Text) → number base n start z ≡ Some c → Digits base n start c z
digits_found base zero start c z is = record { digits = []; rest = z; len = refl; all = tt; value = some_same is; front = refl }
digits_found base (suc n) start c [] is = absurd (none_some is)
digits_found base (suc n) start c (b ∷ z) is =
    let more : Option ℕ = number base n (start * base + digit_value b) z in
    ⊎_elim
    (λ (yes : nat_lt (digit_value b) base ≡ true). more_digits base n start c b z (ltb-true (digit_value b) base yes) (digits_found base n (start * base + digit_value b) c z (sym (cond-true (nat_lt (digit_value b) base) more None yes) ∙ is)))
    (λ (other : nat_lt (digit_value b) base ≡ false). absurd (none_some (sym (cond-false (nat_lt (digit_value b) base) more None other) ∙ is)))
    (cases_Bool (nat_lt (digit_value b) base))

-- ---- bytes of ASCII

abbrev AllLow : Text → Type 0
AllLow [] = ⊤
AllLow (b ∷ z) = (b < 128) × AllLow z

digit_low : (base b : ℕ) → base ≤ 16 → digit_value b < base → b < 128
digit_low base b small digit = grind (arith, common_steps)

quote_ascii : (q : ℕ) → is_quote q ≡ true → q < 128
quote_ascii q is = grind (arith, common_steps)

digits_low : (base : ℕ) (ds : Text) → base ≤ 16 → AllDigits base ds → AllLow ds
digits_low base [] small digits = tt
digits_low base (b ∷ ds) small digits = (digit_low base b small digits.0, digits_low base ds small digits.1)

utf8_after : (w r : Text) → AllLow w → IsUtf8 (w ++ r) → IsUtf8 r
utf8_after [] r low text = text
utf8_after (b ∷ w) r low text =
    utf8_after w r low.1 (IsUtf8-past_char (b ∷ (w ++ r)) (w ++ r) b text (ap (λ e. e ++ (w ++ r)) (sym (encode_ascii b low.0))))

-- ---- escapes

-- the escape that a text begins with, after its backslash
record Escape (quote c len : ℕ) (z : Text) : Type 0 where
  bytes : Text
  spells : Spells quote (92 ∷ bytes) c
  low : AllLow bytes
  size : length bytes ≡ len
  rest : Text
  front : z ≡ bytes ++ rest

option_parts : (o : Option ℕ) (p : ℕ → Bool) (n c len : ℕ) → option_and_then {U = ℕ × ℕ} (λ c. cond (p c) (Some (c, n)) None) o ≡ Some (c, len) → (o ≡ Some c) × (p c ≡ true) × (n ≡ len)
option_parts None p n c len is = absurd (none_some is)
option_parts (Some d) p n c len is =
    ⊎_elim
    (λ (yes : p d ≡ true).
    let pair : ◌≡◌ {A = ℕ × ℕ} (d, n) (c, len) = some_same (sym (cond-true (p d) (Some (d, n)) None yes) ∙ is) in
    (ap (λ (q : ℕ × ℕ). Some q.0) pair, subst (λ k. p k ≡ true) (ap (λ (q : ℕ × ℕ). q.0) pair) yes, ap (λ (q : ℕ × ℕ). q.1) pair))
    (λ (other : p d ≡ false). absurd (none_some (sym (cond-false (p d) (Some (d, n)) None other) ∙ is)))
    (cases_Bool (p d))

hexadecimal_found : (quote b n c len : ℕ) (z : Text) → (quote ≡ 96 → ⊥) → b < 128 → escape_digits b ≡ Some n → quoting.hexadecimal n z ≡ Some (c, len) → Escape quote c len (b ∷ z)
hexadecimal_found quote b n c len z ticks low later is =
    let parts = option_parts (number 16 n 0 z) scalar (n + 1) c len is in
    let found = digits_found 16 n 0 c z parts.0 in
    record {
      bytes = b ∷ found.digits;
      spells = hexadecimal b c found.digits ticks (later ∙ ap Some (sym found.len)) found.all found.value parts.1;
      low = (low, digits_low 16 found.digits (omega arith) found.all);
      size = omega (arith, found.len, parts.2);
      rest = found.rest;
      front = ap (λ t. b ∷ t) found.front;
    }

octal_found : (quote b c len : ℕ) (z : Text) → (quote ≡ 96 → ⊥) → 48 ≤ b → b ≤ 55 → quoting.octal b z ≡ Some (c, len) → Escape quote c len (b ∷ z)
octal_found quote b c len z ticks above below is =
    let parts = option_parts (number 8 2 (b - 48) z) (λ c. nat_le c 255) 3 c len is in
    octal_digits quote b c len z ticks above below (leb-true c 255 parts.1) parts.2 (digits_found 8 2 (b - 48) c z parts.0)
  where
    octal_value : (b : ℕ) → 48 ≤ b → b ≤ 55 → digit_value b ≡ b - 48
    octal_value b above below = grind (arith, common_steps)

    octal_at : (quote b c len : ℕ) (z rest ds : Text) → (quote ≡ 96 → ⊥) → 48 ≤ b → b ≤ 55 → c ≤ 255 → 3 ≡ len → length ds ≡ 2 → AllDigits 8 ds → digits_value_after 8 (b - 48) ds ≡ c → z ≡ ds ++ rest → Escape quote c len (b ∷ z)
    octal_at quote b c len z rest [] ticks above below small three two digits value front = absurd (omega arith)
    octal_at quote b c len z rest (x ∷ []) ticks above below small three two digits value front = absurd (omega arith)
    octal_at quote b c len z rest (x ∷ y ∷ []) ticks above below small three two digits value front = record {
      bytes = b ∷ x ∷ y ∷ [];
      spells = octal b x y c ticks (omega (arith, octal_value b above below), digits) (ap (λ n. digits_value_after 8 n (x ∷ y ∷ [])) (let e : 0 * 8 + digit_value b ≡ b - 48 = omega (arith, octal_value b above below) in e) ∙ value) small;
      low = (omega arith, digits_low 8 (x ∷ y ∷ []) (omega arith) digits);
      size = omega arith;
      rest = rest;
      front = ap (λ t. b ∷ t) front;
    }
    octal_at quote b c len z rest (x ∷ y ∷ w ∷ ds) ticks above below small three two digits value front = absurd (omega arith)

    octal_digits : (quote b c len : ℕ) (z : Text) → (quote ≡ 96 → ⊥) → 48 ≤ b → b ≤ 55 → c ≤ 255 → 3 ≡ len → Digits 8 2 (b - 48) c z → Escape quote c len (b ∷ z)
    octal_digits quote b c len z ticks above below small three found = octal_at quote b c len z found.rest found.digits ticks above below small three found.len found.all found.value found.front

letter_found : (quote b c len : ℕ) (z : Text) → (quote ≡ 96 → ⊥) → option_map {U = ℕ × ℕ} (λ c. (c, 1)) (letter b) ≡ Some (c, len) → Escape quote c len (b ∷ z)
letter_found quote b c len z ticks is =
    let parts = map_parts (letter b) c len is in
    record {
      bytes = b ∷ [];
      spells = by_letter b c ticks parts.0;
      low = (low_letter b c parts.0, tt);
      size = parts.1;
      rest = z;
      front = refl;
    }
  where
    map_parts : (o : Option ℕ) (c len : ℕ) → option_map {U = ℕ × ℕ} (λ c. (c, 1)) o ≡ Some (c, len) → (o ≡ Some c) × (1 ≡ len)
    map_parts None c len is = absurd (none_some is)
    map_parts (Some d) c len is = let pair : ◌≡◌ {A = ℕ × ℕ} (d, 1) (c, len) = some_same is in (ap (λ (q : ℕ × ℕ). Some q.0) pair, ap (λ (q : ℕ × ℕ). q.1) pair)

    low_letter : (b c : ℕ) → letter b ≡ Some c → b < 128
    low_letter b c is = ⊎_elim (λ low. low) (λ high. absurd (none_some (sym (letter_past b high) ∙ is))) (cases_lt b 128)

own_found : (quote c len : ℕ) (z : Text) → is_quote quote ≡ true → (quote ≡ 96 → ⊥) → escape quote (quote ∷ z) ≡ Some (c, len) → Escape quote c len (quote ∷ z)
own_found quote c len z is ticks reads =
    let pair : ◌≡◌ {A = ℕ × ℕ} (quote, 1) (c, len) = some_same (sym (escape-own quote z) ∙ reads) in
    record {
      bytes = quote ∷ [];
      spells = subst (λ k. Spells quote (92 ∷ quote ∷ []) k) (ap (λ (q : ℕ × ℕ). q.0) pair) (own_quote ticks);
      low = (quote_ascii quote is, tt);
      size = ap (λ (q : ℕ × ℕ). q.1) pair;
      rest = z;
      front = refl;
    }

at_byte : (quote c len b d : ℕ) (z : Text) → b ≡ d → Escape quote c len (d ∷ z) → Escape quote c len (b ∷ z)
at_byte quote c len b d z e found = subst (λ k. Escape quote c len (k ∷ z)) (sym e) found

escape_found : (quote c len b : ℕ) (z : Text) → is_quote quote ≡ true → (quote ≡ 96 → ⊥) → escape quote (b ∷ z) ≡ Some (c, len) → Escape quote c len (b ∷ z)
escape_found quote c len b z is ticks reads =
    let at = λ (d : ℕ) (e : b ≡ d). sym (ap (λ k. escape quote (k ∷ z)) e) ∙ reads in
    ⊎_elim
    (λ (own : b ≡ quote). at_byte quote c len b quote z own (own_found quote c len z is ticks (at quote own)))
    (λ (other : b ≡ quote → ⊥). ⊎_elim
    (λ (x : b ≡ 120). at_byte quote c len b 120 z x (hexadecimal_found quote 120 2 c len z ticks (lit< tt) refl (sym (escape-x quote z (λ e. other (x ∙ e))) ∙ at 120 x)))
    (λ (no_x : b ≡ 120 → ⊥). ⊎_elim
    (λ (u : b ≡ 117). at_byte quote c len b 117 z u (hexadecimal_found quote 117 4 c len z ticks (lit< tt) refl (sym (escape-u quote z (λ e. other (u ∙ e))) ∙ at 117 u)))
    (λ (no_u : b ≡ 117 → ⊥). ⊎_elim
    (λ (U : b ≡ 85). at_byte quote c len b 85 z U (hexadecimal_found quote 85 8 c len z ticks (lit< tt) refl (sym (escape-U quote z (λ e. other (U ∙ e))) ∙ at 85 U)))
    (λ (no_U : b ≡ 85 → ⊥). ⊎_elim
    (λ (low : b < 48). letter_found quote b c len z ticks (sym (escape-letter quote z b other no_x no_u no_U (λ above below. absurd (omega arith))) ∙ reads))
    (λ (above : 48 ≤ b). ⊎_elim
    (λ (past : 55 < b). letter_found quote b c len z ticks (sym (escape-letter quote z b other no_x no_u no_U (λ above below. absurd (omega arith))) ∙ reads))
    (λ (below : b ≤ 55). octal_found quote b c len z ticks above below (sym (escape-octal quote z b other above below) ∙ reads))
    (cases_lt 55 b))
    (cases_lt b 48))
    (cases_eq b 85))
    (cases_eq b 117))
    (cases_eq b 120))
    (cases_eq b quote)

-- ---- all spellings

-- the spellings up to the closing quote
record Inside (quote : ℕ) (z t : Text) : Type 0 where
  between : Text
  chars : List ℕ
  spell : AreSpelled quote between chars
  text : z ≡ between ++ quote ∷ []
  value : encode_utf8_all chars ≡ t

-- one more spelling in front
inside_more : (quote c : ℕ) (w z r t : Text) → Spells quote w c → z ≡ w ++ r → Inside quote r t → Inside quote z (encode_utf8 c ++ t)
inside_more quote c w z r t spells front found = record {
  between = w ++ found.between;
  chars = c ∷ found.chars;
  spell = and_more w found.between c found.chars spells found.spell;
  text = front ∙ ap (λ r. w ++ r) found.text ∙ sym (append_assoc w found.between (quote ∷ []));
  value = ap (λ t. encode_utf8 c ++ t) found.value;
}

-- what a reading that goes on gave
map_found : (f : Text → Text) (o : Option Text) (t : Text) → option_map f o ≡ Some t → (x : Text) × (o ≡ Some x) × (f x ≡ t)
map_found f None t is = absurd (none_some is)
map_found f (Some x) t is = (x, refl, some_same is)

Reads : ℕ → ℕ → Type 0
Reads quote k = (z t : Text) → IsUtf8 z → length z ≤ k → inside quote 0 z ≡ Some t → Inside quote z t

at_end : (quote : ℕ) (z rest t : Text) → is_quote quote ≡ true → z ≡ encode_utf8 quote ++ rest → inside quote 0 z ≡ Some t → Inside quote z t
at_end quote z rest t is front reads =
    let closing = sym (closes quote z rest is front) ∙ reads in
    ⊎_elim
    (λ (last : length rest ≡ 0). record {
      between = [];
      chars = [];
      spell = no_more;
      text = front ∙ ap (λ e. e ++ rest) (encode_ascii quote (quote_ascii quote is)) ∙ ap (λ r. quote ∷ r) (empty rest last);
      value = some_same (sym (cond-true (length rest == 0) (Some []) None (eq-eqb (length rest) 0 last)) ∙ closing);
    })
    (λ (more : length rest ≡ 0 → ⊥). absurd (none_some (sym (cond-false (length rest == 0) (Some []) None (ne_eqb (length rest) 0 more)) ∙ closing)))
    (cases_eq (length rest) 0)
  where
    empty : (r : Text) → length r ≡ 0 → r ≡ []
    empty [] e = refl
    empty (b ∷ r) e = absurd (omega arith)

at_itself : (quote k d : ℕ) (z rest t : Text) → Reads quote k → Spells quote (encode_utf8 d) d → z ≡ encode_utf8 d ++ rest → IsUtf8 rest → length rest ≤ k → inside quote 0 (encode_utf8 d ++ rest) ≡ option_map (λ more. encode_utf8 d ++ more) (inside quote 0 rest) → inside quote 0 z ≡ Some t → Inside quote z t
unfolding Reads
at_itself quote k d z rest t more spells front utf8 short step reads =
    let found = map_found (λ x. encode_utf8 d ++ x) (inside quote 0 rest) t (sym step ∙ ap (inside quote 0) (sym front) ∙ reads) in
    subst (λ t. Inside quote z t) found.2 (inside_more quote d (encode_utf8 d) z rest found.0 spells front (more rest found.0 utf8 short found.1))

escape_any : (quote c len : ℕ) (z : Text) → is_quote quote ≡ true → (quote ≡ 96 → ⊥) → escape quote z ≡ Some (c, len) → Escape quote c len z
unfolding escape
escape_any quote c len [] is ticks reads = absurd (none_some reads)
escape_any quote c len (b ∷ z) is ticks reads = escape_found quote c len b z is ticks reads

at_slash : (quote k : ℕ) (z rest t : Text) (o : Option (ℕ × ℕ)) → Reads quote k → is_quote quote ≡ true → (quote ≡ 96 → ⊥) → z ≡ 92 ∷ rest → IsUtf8 rest → length rest ≤ k → escape quote rest ≡ o → option_and_then (λ (e : ℕ × ℕ). option_map (λ more. encode_utf8 e.0 ++ more) (inside quote (e.1 + 1 - 1) rest)) o ≡ Some t → Inside quote z t
unfolding Reads
at_slash quote k z rest t None more is ticks front utf8 short says reads = absurd (none_some reads)
at_slash quote k z rest t (Some e) more is ticks front utf8 short says reads =
    let c : ℕ = e.0 in
    let len : ℕ = e.1 in
    let found = map_found (λ x. encode_utf8 c ++ x) (inside quote (len + 1 - 1) rest) t reads in
    let esc = escape_any quote c len rest is ticks says in
    let dropped : drop len rest ≡ esc.rest = ap (drop len) esc.front ∙ ap (λ n. drop n (esc.bytes ++ esc.rest)) (sym esc.size) ∙ drop-append_seam esc.bytes esc.rest in
    let later : inside quote 0 esc.rest ≡ Some found.0 =
    sym (ap (λ n. inside quote n rest) (let e : len + 1 - 1 ≡ len = omega arith in e) ∙ inside-passed quote len rest ∙ ap (inside quote 0) dropped) ∙ found.1
    in
    let fits : length esc.rest ≤ k = omega (arith, ap length esc.front, length-append esc.bytes esc.rest) in
    let utf8_rest = utf8_after esc.bytes esc.rest esc.low (subst IsUtf8 esc.front utf8) in
    subst (λ t. Inside quote z t) found.2
    (inside_more quote c (92 ∷ esc.bytes) z esc.rest found.0 esc.spells (front ∙ ap (λ r. 92 ∷ r) esc.front) (more esc.rest found.0 utf8_rest fits later))

feed_none : (quote : ℕ) (rest : Text) → (quote ≡ 96 → ⊥) → (10 ≡ quote → ⊥) → inside quote 0 (10 ∷ rest) ≡ None
feed_none quote rest ticks other =
    cond-false (10 == quote) _ _ (ne_eqb 10 quote other)
    ∙ ap (option_and_then (λ (s : Text × ℕ). option_map (λ more. s.0 ++ more) (inside quote (s.1 - 1) rest))) (cond-false (quote == 96) _ _ (ne_eqb quote 96 ticks))

one_char : (quote k d : ℕ) (z rest t : Text) → Reads quote k → is_quote quote ≡ true → IsScalar d → z ≡ encode_utf8 d ++ rest → IsUtf8 rest → length rest ≤ k → inside quote 0 z ≡ Some t → Inside quote z t
one_char quote k d z rest t more is scalar_d front utf8 short reads =
    ⊎_elim
    (λ (own : d ≡ quote). at_end quote z rest t is (front ∙ ap (λ c. encode_utf8 c ++ rest) own) reads)
    (λ (other : d ≡ quote → ⊥). ⊎_elim
    (λ (ticks : quote ≡ 96). at_itself quote k d z rest t more (itself d scalar_d other (λ no. absurd (no ticks))) front utf8 short (reads_between_backticks quote d rest ticks other) reads)
    (λ (no_ticks : quote ≡ 96 → ⊥). ⊎_elim
    (λ (feed : d ≡ 10). absurd (none_some (sym (feed_none quote rest no_ticks (λ e. other (feed ∙ e))) ∙ ap (inside quote 0) (sym (ascii 10 d z rest (lit< tt) feed front)) ∙ reads)))
    (λ (no_feed : d ≡ 10 → ⊥). ⊎_elim
    (λ (slash : d ≡ 92).
    let whole = ascii 92 d z rest (lit< tt) slash front in
    at_slash quote k z rest t (escape quote rest) more is no_ticks whole utf8 short refl
    (sym (slash_reads quote rest (escape quote rest) no_ticks (slash_no_quote quote is) refl) ∙ ap (inside quote 0) (sym whole) ∙ reads))
    (λ (no_slash : d ≡ 92 → ⊥). at_itself quote k d z rest t more (itself d scalar_d other (λ _. (no_feed, no_slash))) front utf8 short (reads_itself quote d rest is other no_feed no_slash) reads)
    (cases_eq d 92))
    (cases_eq d 10))
    (cases_eq quote 96))
    (cases_eq d quote)
  where
    ascii : (b d : ℕ) (z rest : Text) → b < 128 → d ≡ b → z ≡ encode_utf8 d ++ rest → z ≡ b ∷ rest
    ascii b d z rest low is front = front ∙ ap (λ c. encode_utf8 c ++ rest) is ∙ ap (λ e. e ++ rest) (encode_ascii b low)

by_chars : (quote k : ℕ) (ds : List ℕ) (z t : Text) → Reads quote k → is_quote quote ≡ true → scalars ds ≡ true → encode_utf8_all ds ≡ z → length z ≤ suc k → inside quote 0 z ≡ Some t → Inside quote z t
by_chars quote k [] z t more is chars front short reads = absurd (none_some (ap (inside quote 0) front ∙ reads))
by_chars quote k (d ∷ ds) z t more is chars front short reads =
    let parts = and_parts (scalar d) (scalars ds) chars in
    let rest : Text = encode_utf8_all ds in
    let fits : length rest ≤ k = omega (arith, ap length front, length-append (encode_utf8 d) rest, length-encode d, len_utf8_bounds d) in
    one_char quote k d z rest t more is parts.0 (sym front) (ds, (parts.1, refl)) fits reads

all_found : (quote k : ℕ) → is_quote quote ≡ true → Reads quote k
unfolding Reads
all_found quote zero is z t utf8 short reads = absurd (none_some (ap (inside quote 0) (sym (empty z short)) ∙ reads))
  where
    empty : (z : Text) → length z ≤ 0 → z ≡ []
    empty [] e = refl
    empty (b ∷ z) e = absurd (omega arith)
all_found quote (suc k) is z t utf8 short reads = by_chars quote k utf8.0 z t (all_found quote k is) is utf8.1.0 utf8.1.1 short reads

pub text_is_quoted : (s t : Text) → IsUtf8 s → unquoted_text s ≡ Some t → (cs : List ℕ) × IsQuotedText s cs × (encode_utf8_all cs ≡ t)
unfolding unquoted_text Reads
text_is_quoted [] t utf8 reads = absurd (none_some reads)
text_is_quoted (b ∷ z) t utf8 reads =
    ⊎_elim
    (λ (is : is_quote b ≡ true).
    let utf8_z = utf8_after (b ∷ []) z (quote_ascii b is, tt) utf8 in
    let found = all_found b (length z) is z t utf8_z (omega arith) (sym (cond-true (is_quote b) (inside b 0 z) None is) ∙ reads) in
    (found.chars, (b, found.between, is, found.spell, ap (λ z. b ∷ z) found.text), found.value))
    (λ (other : is_quote b ≡ false). absurd (none_some (sym (cond-false (is_quote b) (inside b 0 z) None other) ∙ reads)))
    (cases_Bool (is_quote b))
