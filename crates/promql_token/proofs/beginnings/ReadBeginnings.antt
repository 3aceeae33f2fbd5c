-- What may begin at a place is read there.
use Rattle.std.proofs.Common.{◌≡◌, ℕ, zero, suc, ◌<◌, true, false, cond, List, [], ◌∷◌, ◌++◌, length, get_or, Ok, refl, sym, ap, ◌∙◌, subst, inl, inr, ⊎_elim, arith, eqb-true}
use Rattle.std.specs.Prelude.{◌==◌, ◌||◌}
use Rattle.std.specs.Char.{is_ascii_digit}
use Rattle.std.specs.List.{list_any}
use Rattle.promql_token.specs.declared.class.Class.TheVariants as class
use Rattle.promql_token.specs.declared.state.Bracket.{Bracket}
use Rattle.promql_token.specs.declared.state.Bracket.TheVariants as bracket
use Rattle.promql_token.specs.declared.state.Mode.{Mode}
use Rattle.promql_token.specs.declared.state.Mode.TheVariants as mode
use Rattle.promql_text.specs.Texts.{Text}
use Rattle.promql_token.specs.Begins.{IsName, IsNumeral, IsOneOf, IsString, IsWord, MayBegin, punctuators, punctuators_outside}
use Rattle.promql_token.specs.Front.{Punctuator}
use Rattle.promql_token.specs.Classes.{is_letter, end_of_run}
use Rattle.promql_token.specs.Vocabulary.{next}
use Rattle.promql_token.specs.TokenScanning.{Scanned, begins_numeral, scan_in_mode, in_braces, in_brackets, is_quote, numeral, outside, punctuator, string, word}
use Rattle.promql_token.specs.Printed.{holds_strings}
use Rattle.promql_token.proofs.printed.InLongerTexts.{word_beside, word_in_braces_beside}
use Rattle.promql_token.proofs.cursors.TestsAndCounts.{not_one, not_zero, or_false}
use Rattle.promql_token.proofs.one_reading.Ends.{PieceEnds, and_left, and_right, numeral_ends}
use Rattle.promql_token.proofs.printed.Concatenation.{letter_apart, no_numeral}
use Rattle.promql_token.proofs.values.Numerals.{numeral_begins, numeral_read}
use Rattle.promql_token.proofs.printed.PrintedForms.{digit_apart, quote_apart, quote_no_letter, quote_no_word, quote_outside}
use Rattle.promql_token.proofs.values.Strings.{body_quote, string_closed}

-- ---- punctuators

-- each row is read, where none of its bytes follows
abbrev AreRead : (Text → Scanned) → List Punctuator → Type 0
AreRead f [] = Unit {0}
AreRead f (s ∷ ss) = ((r : Text) → list_any (λ b. next r == b) s.2 ≡ false → f (s.0 ++ r) ≡ Ok (s.1, length s.0)) × AreRead f ss

punctuator_read : (f : Text → Scanned) (ss : List Punctuator) (id : ℕ) (w r : Text) → AreRead f ss → IsOneOf ss id w r → f (w ++ r) ≡ Ok (id, length w)
punctuator_read f [] id w r rows h = absurd h
punctuator_read f (s ∷ ss) id w r rows (inl h) = ap (λ w. f (w ++ r)) h.0 ∙ rows.0 r h.2 ∙ (λ i. Ok (sym h.1 i, length (sym h.0 i)))
punctuator_read f (s ∷ ss) id w r rows (inr h) = punctuator_read f ss id w r rows.1 h

outside_rows : (depth : ℕ) → AreRead (outside depth) punctuators_outside
unfolding outside punctuator
outside_rows depth = (
  λ r h. refl,
  (
    λ r h. refl,
    (
      λ r h. refl,
      (
        λ r h. refl,
        (
          λ r h. refl,
          (
            λ r h. refl,
            (
              λ r h. refl,
              (
                λ r h. refl,
                (
                  λ r h. refl,
                  (
                    λ r h. refl,
                    (
                      λ r h. refl,
                      (
                        λ r h. let no = or_false (next r == 61) ((next r == 126) || false) h in let no2 = or_false (next r == 126) false no.1 in rw (no.0, no2.0) refl,
                        (
                          λ r h. refl,
                          (
                            λ r h. rw (not_one (length r)) refl,
                            (
                              λ r h. let no = or_false (next r == 61) false h in rw no.0 refl,
                              (
                                λ r h. refl,
                                (λ r h. let no = or_false (next r == 61) false h in rw no.0 refl, (λ r h. refl, tt)),
                              ),
                            ),
                          ),
                        ),
                      ),
                    ),
                  ),
                ),
              ),
            ),
          ),
        ),
      ),
    ),
  ),
)

all_outside_rows : (depth : ℕ) → AreRead (outside depth) (punctuators mode.Outside depth)
unfolding outside punctuator
all_outside_rows zero = outside_rows zero
all_outside_rows (suc depth) = (λ r h. rw (not_zero depth) refl, outside_rows (suc depth))

braces_rows : (depth : ℕ) → AreRead in_braces (punctuators mode.Braces depth)
unfolding in_braces
braces_rows depth = (λ r h. refl, (λ r h. let no = or_false (next r == 126) false h in rw no.0 refl, (λ r h. rw (not_one (length r)) refl, (λ r h. refl, (λ r h. rw (not_one (length r)) refl, (λ r h. refl, tt))))))

brackets_rows : (inside : Bracket) (depth : ℕ) → AreRead (in_brackets inside) (punctuators (mode.Brackets inside) depth)
unfolding in_brackets
brackets_rows bracket.Nothing depth = (λ r h. refl, tt)
brackets_rows bracket.Something depth = (λ r h. refl, (λ r h. refl, tt))
brackets_rows bracket.Colon depth = (λ r h. refl, tt)

-- punctuators are not empty
abbrev AreSome : List Punctuator → Type 0
AreSome [] = Unit {0}
AreSome (s ∷ ss) = (0 < length s.0) × AreSome ss

punctuator_some : (ss : List Punctuator) (id : ℕ) (w r : Text) → AreSome ss → IsOneOf ss id w r → 0 < length w
punctuator_some [] id w r rows h = absurd h
punctuator_some (s ∷ ss) id w r rows (inl h) = subst (λ w. 0 < length w) (sym h.0) rows.0
punctuator_some (s ∷ ss) id w r rows (inr h) = punctuator_some ss id w r rows.1 h

one : 0 < 1
one = omega arith

two : 0 < 2
two = omega arith

outside_some : AreSome punctuators_outside
outside_some = (one, (one, (one, (one, (one, (one, (one, (one, (one, (one, (one, (one, (two, (two, (one, (two, (one, (two, tt))))))))))))))))))

some_punctuators : (m : Mode) (depth : ℕ) → AreSome (punctuators m depth)
some_punctuators mode.Outside zero = outside_some
some_punctuators mode.Outside (suc depth) = (one, outside_some)
some_punctuators mode.Braces depth = (one, (one, (two, (two, (two, (one, tt))))))
some_punctuators (mode.Brackets bracket.Nothing) depth = (one, tt)
some_punctuators (mode.Brackets bracket.Something) depth = (one, (one, tt))
some_punctuators (mode.Brackets bracket.Colon) depth = (one, tt)

-- ---- words

word_read : (depth id : ℕ) (w r : Text) → IsWord id w r → (outside depth (w ++ r) ≡ Ok (id, length w)) × (0 < length w)
unfolding outside
word_read depth id [] r h = let no = h.0 in absurd (cc)
word_read depth id (b ∷ w) r h =
    let z : Text = b ∷ (w ++ r) in
    let first = and_left (is_letter b || (b == 58)) (end_of_run class.Word (b ∷ w) 0 == suc (length w)) h.0 in
    let all = eqb-true (end_of_run class.Word (b ∷ w) 0) (suc (length w)) (and_right (is_letter b || (b == 58)) _ h.0) in (
      ap (λ x. cond x (numeral z) (cond (is_letter b || (b == 58)) (word z) (cond (is_quote b) (string z) (punctuator depth z)))) (no_numeral b (next (w ++ r)) first)
          ∙ ap (λ x. cond x (word z) (cond (is_quote b) (string z) (punctuator depth z))) first ∙ word_beside (b ∷ w) r all h.1 ∙ ap (λ id. Ok (id, suc (length w))) (sym h.2),
      omega arith,
    )

name_read : (id : ℕ) (w r : Text) → IsName id w r → (in_braces (w ++ r) ≡ Ok (id, length w)) × (0 < length w)
unfolding in_braces
name_read id [] r h = let no = h.0 in absurd (cc)
name_read id (b ∷ w) r h =
    let letter = and_left (is_letter b) (end_of_run class.Name (b ∷ w) 0 == suc (length w)) h.0 in
    let all = eqb-true (end_of_run class.Name (b ∷ w) 0) (suc (length w)) (and_right (is_letter b) _ h.0) in (
      rw (letter_apart b 44 letter refl, letter_apart b 61 letter refl, letter_apart b 33 letter refl, letter_apart b 123 letter refl, letter_apart b 125 letter refl, letter)
          (word_in_braces_beside (b ∷ w) r all h.1 ∙ ap (λ id. Ok (id, suc (length w))) (sym h.2)),
      omega arith,
    )

-- ---- strings

-- after a quote a string is read
pub string_first : (m : Mode) (depth b : ℕ) (y : Text) → holds_strings m ≡ true → is_quote b ≡ true → scan_in_mode m depth (b ∷ y) ≡ string (b ∷ y)
unfolding outside in_braces
string_first mode.Outside depth b y holds quote = rw (quote_outside b (next y) quote, quote_no_word b quote, quote) refl
string_first mode.Braces depth b y holds quote =
    rw (quote_apart b 44 quote refl, quote_apart b 61 quote refl, quote_apart b 33 quote refl, quote_apart b 123 quote refl, quote_apart b 125 quote refl, quote_no_letter b quote, quote) refl
string_first (mode.Brackets inside) depth b y holds quote = absurd (cc)

string_read : (m : Mode) (depth id : ℕ) (w r : Text) → holds_strings m ≡ true → IsString id w → (scan_in_mode m depth (w ++ r) ≡ Ok (id, length w)) × (0 < length w)
string_read m depth id w r holds h =
    let quote = h.1 in
    let body = h.2 in
    let t : Text = quote ∷ (body ++ quote ∷ []) in (
      subst (λ w. scan_in_mode m depth (w ++ r) ≡ Ok (id, length w)) (sym h.4)
          (string_first m depth quote ((body ++ quote ∷ []) ++ r) holds (body_quote quote body h.3) ∙ string_closed quote body r h.3 ∙ ap (λ id. Ok (id, length t)) (sym h.0)),
      subst (λ w. 0 < length w) (sym h.4) (omega arith),
    )

-- ---- numerals

pub begins_some : (z : Text) → begins_numeral z ≡ true → 0 < length z
begins_some [] h = absurd (cc)
begins_some (b ∷ z) h = omega arith

numeral_some : (id : ℕ) (w r : Text) → IsNumeral id w r → 0 < length w
numeral_some id w r h =
    let begins = numeral_begins id w r h in
    let ends = subst (λ p. PieceEnds (w ++ r) p) (numeral_read id w r h) (numeral_ends (w ++ r) (begins_some (w ++ r) begins) begins) in
    ends.1 (⊎_elim (λ n six. let no : 15 ≡ 6 = sym n.0 ∙ six in omega arith) (λ d six. let no : 5 ≡ 6 = sym d.0 ∙ six in omega arith) h.1)

numeral_outside : (depth id : ℕ) (w r : Text) → IsNumeral id w r → outside depth (w ++ r) ≡ Ok (id, length w)
unfolding outside
numeral_outside depth id w r h =
    let z : Text = w ++ r in
    let b = get_or z 0 0 in
    ap (λ x. cond x (numeral z) (cond (is_letter b || (b == 58)) (word z) (cond (is_quote b) (string z) (punctuator depth z)))) (numeral_begins id w r h) ∙ numeral_read id w r h

-- at a digit in brackets a numeral is read
pub digit_first : (inside : Bracket) (b : ℕ) (y : Text) → is_ascii_digit b ≡ true → in_brackets inside (b ∷ y) ≡ numeral (b ∷ y)
unfolding in_brackets
digit_first inside b y digit = rw (digit_apart b 58 digit refl, digit_apart b 93 digit refl, digit_apart b 91 digit refl, digit) refl

numeral_in_brackets : (inside : Bracket) (id : ℕ) (w r : Text) → is_ascii_digit (next w) ≡ true → IsNumeral id w r → in_brackets inside (w ++ r) ≡ Ok (id, length w)
numeral_in_brackets inside id [] r digit h = absurd (cc)
numeral_in_brackets inside id (b ∷ w) r digit h = digit_first inside b (w ++ r) digit ∙ numeral_read id (b ∷ w) r h

-- ---- modes

pub begun_read : (m : Mode) (depth id : ℕ) (w r : Text) → MayBegin m depth id w r → (scan_in_mode m depth (w ++ r) ≡ Ok (id, length w)) × (0 < length w)
begun_read mode.Outside depth id w r (inl h) = (punctuator_read (outside depth) (punctuators mode.Outside depth) id w r (all_outside_rows depth) h, punctuator_some (punctuators mode.Outside depth) id w r (some_punctuators mode.Outside depth) h)
begun_read mode.Outside depth id w r (inr (inl h)) = word_read depth id w r h
begun_read mode.Outside depth id w r (inr (inr (inl h))) = (numeral_outside depth id w r h, numeral_some id w r h)
begun_read mode.Outside depth id w r (inr (inr (inr h))) = string_read mode.Outside depth id w r refl h
begun_read mode.Braces depth id w r (inl h) = (punctuator_read in_braces (punctuators mode.Braces depth) id w r (braces_rows depth) h, punctuator_some (punctuators mode.Braces depth) id w r (some_punctuators mode.Braces depth) h)
begun_read mode.Braces depth id w r (inr (inl h)) = name_read id w r h
begun_read mode.Braces depth id w r (inr (inr h)) = string_read mode.Braces depth id w r refl h
begun_read (mode.Brackets inside) depth id w r (inl h) =
    (punctuator_read (in_brackets inside) (punctuators (mode.Brackets inside) depth) id w r (brackets_rows inside depth) h, punctuator_some (punctuators (mode.Brackets inside) depth) id w r (some_punctuators (mode.Brackets inside) depth) h)
begun_read (mode.Brackets inside) depth id w r (inr h) = (numeral_in_brackets inside id w r h.0 h.1, numeral_some id w r h.1)
