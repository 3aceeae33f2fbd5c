-- Outside braces a token is a word with its id, or has the id of no word.
use Rattle.std.proofs.Common.{◌≡◌, ℕ, zero, suc, ◌+◌, ◌-◌, ◌<◌, Bool, true, false, cond, List, [], ◌∷◌, length, get_or, take, drop, map, Result, Ok, Err, refl, sym, ap, ◌∙◌, subst, inl, inr, ⊎_elim, arith, zero-add}
use Rattle.std.specs.Prelude.{◌==◌, not, ◌&&◌, ◌||◌}
use Rattle.std.specs.Char.{is_ascii_digit}
use Rattle.std.specs.List.{prefix_len}
use Rattle.std.proofs.lemmas.Bool.{cond_both, eq-eqb}
use Rattle.std.proofs.lemmas.Grind.{common_steps}
use Rattle.promql_token.specs.declared.class.Class.TheVariants as class
use Rattle.promql_token.specs.declared.fault.LexFault.{LexFault}
use Rattle.promql_token.specs.declared.lexeme.Lexeme.{Lexeme}
use Rattle.promql_token.specs.declared.state.Bracket.{Bracket}
use Rattle.promql_token.specs.declared.state.Bracket.TheVariants as bracket
use Rattle.promql_token.specs.declared.state.Mode.{Mode}
use Rattle.promql_token.specs.declared.state.Mode.TheVariants as mode
use Rattle.promql_token.specs.declared.state.State.{State}
use Rattle.promql_text.specs.Texts.{Text}
use Rattle.promql_token.specs.Classes.{is_in, is_letter, end_of_run}
use Rattle.promql_token.specs.Laws.{is_word}
use Rattle.promql_token.specs.Lexing.{ScannedText, found, scanned_text, goes_on, state_after_scan, len_of, pieces, start, lex, result_texts, slice_texts}
use Rattle.promql_token.specs.TokenScanning.{Scanned, word, number_end, units, numeral, is_quote, is_escape, string_from, string, punctuator, begins_numeral, outside, colon_token, in_brackets, end_in, scan_in_mode, scan_token, trivia_len, after_trivia, after, mode_after, mode_after_something, mode_after_colon}
use Rattle.promql_token.specs.TokenSpelling.{IsSpelled, AreSpelled, Spelled, begins_unsigned, in_braces_after, is_no_word}
use Rattle.promql_token.proofs.cursors.TestsAndCounts.{and_both}
use Rattle.promql_token.proofs.one_reading.Ends.{and_left, number_moves, or_cases}
use Rattle.promql_token.proofs.one_reading.Places.{past_moves}
use Rattle.promql_token.proofs.one_reading.Spans.{spans}
use Rattle.promql_token.proofs.one_reading.Steps.{pieces_are}
use Rattle.promql_token.specs.declared.ids.TheConstants.{T_COLON, T_LEFT_BRACE, T_LEFT_BRACKET, T_NUMBER, T_RIGHT_BRACE, T_RIGHT_BRACKET}

abbrev SpelledPiece : Text → Scanned → Type 0
SpelledPiece z (Ok t) = IsSpelled (t.0, take t.1 z)
SpelledPiece z (Err f) = Unit {0}

no_word : (id : ℕ) (w : Text) → is_no_word id ≡ true → (id == T_NUMBER) ≡ false → IsSpelled (id, w)
no_word id w is other = record { word = inr is; number = λ same. let no : (15 == 15) ≡ false = subst (λ k. (k == 15) ≡ false) same other in absurd (cc) }

pub first_byte : (n : ℕ) (z : Text) → 0 < n → get_or (take n z) 0 0 ≡ get_or z 0 0
first_byte zero z some = absurd (omega arith)
first_byte (suc n) [] some = refl
first_byte (suc n) (b ∷ z) some = refl

-- ---- words

pub prefix_whole : (p : ℕ → Bool) (z : Text) → prefix_len p (take (prefix_len p z) z) ≡ length (take (prefix_len p z) z)
prefix_whole p [] = refl
prefix_whole p (b ∷ z) =
    cond_both (p b) _ _ (λ n. prefix_len p (take n (b ∷ z)) ≡ length (take n (b ∷ z)))
    (λ is.
    let n = prefix_len p z in
    let e : 1 + n ≡ suc n = omega arith in
    let f : 1 + prefix_len p (take n z) ≡ suc (prefix_len p (take n z)) = omega arith in
    subst (λ k. prefix_len p (take k (b ∷ z)) ≡ length (take k (b ∷ z))) (sym e)
    (ap (λ c. cond c (1 + prefix_len p (take n z)) 0) is ∙ f ∙ ap suc (prefix_whole p z)))
    (λ _. refl)

in_word : (b : ℕ) → (is_letter b || (b == 58)) ≡ true → is_in class.Word b ≡ true
in_word b h = grind (arith, common_steps)

past_whole_word : (z : Text) → end_of_run class.Word (take (end_of_run class.Word z 0) z) 0 ≡ length (take (end_of_run class.Word z 0) z)
past_whole_word z =
    let p = is_in class.Word in
    let n = end_of_run class.Word z 0 in
    let e : n ≡ prefix_len p z = zero-add (prefix_len p z) in
    subst (λ k. 0 + prefix_len p (take k z) ≡ length (take k z)) (sym e) (zero-add _ ∙ prefix_whole p z)

word_spelled : (z : Text) → 0 < length z → (is_letter (get_or z 0 0) || (get_or z 0 0 == 58)) ≡ true → SpelledPiece z (word z)
unfolding word
word_spelled z some first =
    let n = end_of_run class.Word z 0 in
    let w : Text = take n z in
    let moves = past_moves class.Word z some (in_word (get_or z 0 0) first) in
    let same = first_byte n z moves in
    let front : (is_letter (get_or w 0 0) || (get_or w 0 0 == 58)) ≡ true = ap (λ b. is_letter b || (b == 58)) same ∙ first in
    let is : is_word w ≡ true = and_both _ _ front (eq-eqb _ _ (past_whole_word z)) in
    record {
      word = inl (is, (drop n z, refl));
      number = λ _. ap (λ b. b || (get_or w 0 0 == 46)) (in_word (get_or w 0 0) front);
    }

-- ---- numerals

unsigned_digit : (b : ℕ) → is_ascii_digit b ≡ true → (is_in class.Word b || (b == 46)) ≡ true
unsigned_digit b h = grind (arith, common_steps)

unsigned_point : (b : ℕ) → (b == 46) ≡ true → (is_in class.Word b || (b == 46)) ≡ true
unsigned_point b h = grind (arith, common_steps)

digit_begins : (z : Text) → is_ascii_digit (get_or z 0 0) ≡ true → begins_numeral z ≡ true
digit_begins z digit = ap (λ b. b || ((get_or z 0 0 == 46) && is_ascii_digit (get_or z 1 0))) digit

unsigned_front : (z : Text) → begins_numeral z ≡ true → begins_unsigned z ≡ true
unsigned_front z begins =
    ⊎_elim (λ digit. unsigned_digit (get_or z 0 0) digit) (λ dot. unsigned_point (get_or z 0 0) (and_left (get_or z 0 0 == 46) _ dot))
    (or_cases (is_ascii_digit (get_or z 0 0)) ((get_or z 0 0 == 46) && is_ascii_digit (get_or z 1 0)) begins)

numeral_spelled : (z : Text) → 0 < length z → begins_numeral z ≡ true → SpelledPiece z (numeral z)
unfolding numeral
numeral_spelled z some begins =
    let end = number_end z in
    let run = end_of_run class.Name z end in
    let same = first_byte end z (number_moves z some begins) in
    cond_both ((run == end) && not (get_or z end 0 == 46)) _ _ (SpelledPiece z)
    (λ _. record { word = inr refl; number = λ _. ap (λ b. is_in class.Word b || (b == 46)) same ∙ unsigned_front z begins }) (λ _.
    cond_both (units (take (run - end) (drop end z))) _ _ (SpelledPiece z) (λ _. no_word 5 _ refl refl) (λ _. tt))

-- ---- strings and signs

string_from_spelled : (quote : ℕ) (e : Bool) (at : ℕ) (whole z : Text) → SpelledPiece whole (string_from quote e at z)
string_from_spelled quote true at whole [] = tt
string_from_spelled quote false at whole [] = tt
string_from_spelled quote true at whole (b ∷ z) = cond_both (is_escape quote b) _ _ (SpelledPiece whole) (λ _. string_from_spelled quote false _ whole z) (λ _. tt)
string_from_spelled quote false at whole (b ∷ z) = cond_both (b == quote) _ _ (SpelledPiece whole) (λ _. no_word 21 _ refl refl) (λ _. string_from_spelled quote _ _ whole z)

string_spelled : (z : Text) → SpelledPiece z (string z)
unfolding string
string_spelled z = string_from_spelled (get_or z 0 0) false 1 z (drop 1 z)

punctuator_spelled : (depth : ℕ) (z : Text) → SpelledPiece z (punctuator depth z)
unfolding punctuator
punctuator_spelled depth z =
    let b = get_or z 0 0 in
    let c = get_or z 1 0 in
    let P = SpelledPiece z in
    cond_both (b == 46) _ _ P (λ _. cond_both (length z == 1) _ _ P (λ _. tt) (λ _. tt)) (λ _.
    cond_both (b == 61) _ _ P (λ _. cond_both (c == 61) _ _ P (λ _. no_word 26 _ refl refl) (λ _. cond_both (c == 126) _ _ P (λ _. tt) (λ _. no_word 0 _ refl refl))) (λ _.
    cond_both (b == 60) _ _ P (λ _. cond_both (c == 61) _ _ P (λ _. no_word 33 _ refl refl) (λ _. no_word 32 _ refl refl)) (λ _.
    cond_both (b == 62) _ _ P (λ _. cond_both (c == 61) _ _ P (λ _. no_word 28 _ refl refl) (λ _. no_word 29 _ refl refl)) (λ _.
    cond_both (b == 33) _ _ P (λ _. cond_both (length z == 1) _ _ P (λ _. tt) (λ _. cond_both (c == 61) _ _ P (λ _. no_word 37 _ refl refl) (λ _. tt))) (λ _.
    cond_both (b == 64) _ _ P (λ _. no_word 41 _ refl refl) (λ _.
    cond_both (b == 44) _ _ P (λ _. no_word 3 _ refl refl) (λ _.
    cond_both (b == 42) _ _ P (λ _. no_word 36 _ refl refl) (λ _.
    cond_both (b == 47) _ _ P (λ _. no_word 25 _ refl refl) (λ _.
    cond_both (b == 37) _ _ P (λ _. no_word 35 _ refl refl) (λ _.
    cond_both (b == 43) _ _ P (λ _. no_word 24 _ refl refl) (λ _.
    cond_both (b == 45) _ _ P (λ _. no_word 40 _ refl refl) (λ _.
    cond_both (b == 94) _ _ P (λ _. no_word 39 _ refl refl) (λ _.
    cond_both (b == 123) _ _ P (λ _. no_word 9 _ refl refl) (λ _.
    cond_both (b == 91) _ _ P (λ _. no_word 10 _ refl refl) (λ _.
    cond_both (b == 40) _ _ P (λ _. no_word 11 _ refl refl) (λ _.
    cond_both (b == 41) _ _ P (λ _. cond_both (depth == 0) _ _ P (λ _. tt) (λ _. no_word 18 _ refl refl)) (λ _.
    cond_both (b == 125) _ _ P (λ _. tt) (λ _.
    cond_both (b == 93) _ _ P (λ _. tt) (λ _. tt)))))))))))))))))))

-- ---- places

outside_spelled : (depth : ℕ) (z : Text) → 0 < length z → SpelledPiece z (outside depth z)
unfolding outside
outside_spelled depth z some =
    let b = get_or z 0 0 in
    cond_both (begins_numeral z) _ _ (SpelledPiece z) (λ begins. numeral_spelled z some begins) (λ _.
    cond_both (is_letter b || (b == 58)) _ _ (SpelledPiece z) (λ first. word_spelled z some first) (λ _.
    cond_both (is_quote b) _ _ (SpelledPiece z) (λ _. string_spelled z) (λ _. punctuator_spelled depth z)))

colon_spelled : (inside : Bracket) (z : Text) → SpelledPiece z (colon_token inside)
colon_spelled bracket.Nothing z = tt
colon_spelled bracket.Something z = no_word 2 _ refl refl
colon_spelled bracket.Colon z = tt

in_brackets_spelled : (inside : Bracket) (z : Text) → 0 < length z → SpelledPiece z (in_brackets inside z)
unfolding in_brackets
in_brackets_spelled inside z some =
    let b = get_or z 0 0 in
    cond_both (b == 58) _ _ (SpelledPiece z) (λ _. colon_spelled inside z) (λ _.
    cond_both (b == 93) _ _ (SpelledPiece z) (λ _. no_word 17 _ refl refl) (λ _.
    cond_both (b == 91) _ _ (SpelledPiece z) (λ _. tt) (λ _.
    cond_both (is_ascii_digit b) _ _ (SpelledPiece z) (λ digit. numeral_spelled z some (digit_begins z digit)) (λ _. tt))))

abbrev is_inside : Mode → Bool
is_inside mode.Outside = false
is_inside mode.Braces = true
is_inside (mode.Brackets inside) = false

begun_spelled : (m : Mode) (depth b : ℕ) (z : Text) → is_inside m ≡ false → SpelledPiece (b ∷ z) (scan_in_mode m depth (b ∷ z))
begun_spelled mode.Outside depth b z out = outside_spelled depth (b ∷ z) (omega arith)
begun_spelled mode.Braces depth b z out = absurd (cc)
begun_spelled (mode.Brackets inside) depth b z out = in_brackets_spelled inside (b ∷ z) (omega arith)

end_spelled : (m : Mode) (depth : ℕ) → SpelledPiece [] (end_in m depth)
end_spelled mode.Outside depth = cond_both (depth == 0) _ _ (SpelledPiece []) (λ _. no_word 6 _ refl refl) (λ _. tt)
end_spelled mode.Braces depth = tt
end_spelled (mode.Brackets inside) depth = tt

piece_spelled : (state : State) (z : Text) → is_inside state.mode ≡ false → SpelledPiece z (scan_token state z)
unfolding scan_token
piece_spelled state [] out = end_spelled state.mode state.depth
piece_spelled state (b ∷ z) out = begun_spelled state.mode state.depth b z out

abbrev SpelledPieceText : ScannedText → Type 0
SpelledPieceText (Ok t) = IsSpelled t
SpelledPieceText (Err f) = Unit {0}

piece_text_spelled : (p : Scanned) (z : Text) → SpelledPiece z p → SpelledPieceText (scanned_text p z)
piece_text_spelled (Ok t) z h = h
piece_text_spelled (Err f) z h = tt

something_inside : (m : Mode) → is_inside (mode_after_something m) ≡ is_inside m
something_inside mode.Outside = refl
something_inside mode.Braces = refl
something_inside (mode.Brackets bracket.Nothing) = refl
something_inside (mode.Brackets bracket.Something) = refl
something_inside (mode.Brackets bracket.Colon) = refl

colon_inside : (m : Mode) → is_inside (mode_after_colon m) ≡ is_inside m
colon_inside mode.Outside = refl
colon_inside mode.Braces = refl
colon_inside (mode.Brackets inside) = refl

trivia_inside : (n : ℕ) (state : State) → is_inside (after_trivia n state).mode ≡ is_inside state.mode
unfolding after_trivia
trivia_inside n state = cond_both (n == 0) _ _ (λ (s : State). is_inside s.mode ≡ is_inside state.mode) (λ _. refl) (λ _. something_inside state.mode)

found_spelled : (state : State) (z : Text) → is_inside state.mode ≡ false → SpelledPieceText (found state z).scanned_text
unfolding found
found_spelled state z out =
    let n = trivia_len state.mode z in
    piece_text_spelled _ (drop n z) (piece_spelled (after_trivia n state) (drop n z) (trivia_inside n state ∙ out))

-- ---- lists

mode_inside : (m : Mode) (id : ℕ) → is_inside (mode_after m id) ≡ in_braces_after (is_inside m) id
mode_inside m id = tests (id == T_LEFT_BRACE) (id == T_LEFT_BRACKET) ((id == T_RIGHT_BRACE) || (id == T_RIGHT_BRACKET)) (id == T_COLON)
  where
    tests : (a b c d : Bool) → is_inside (cond a mode.Braces (cond b (mode.Brackets bracket.Nothing) (cond c mode.Outside (cond d (mode_after_colon m) (mode_after_something m))))) ≡ cond a true (cond b false (cond c false (is_inside m)))
    tests true b c d = refl
    tests false true c d = refl
    tests false false true d = refl
    tests false false false true = colon_inside m
    tests false false false false = something_inside m

after_inside : (state : State) (id : ℕ) → is_inside (after state id).mode ≡ in_braces_after (is_inside state.mode) id
unfolding after
after_inside state id = mode_inside state.mode id

no_more : (inside : Bool) (ts : List (ℕ × Text)) → ◌≡◌ {A = List ScannedText} [] (map (λ t. Ok t) ts) → AreSpelled inside ts
no_more inside [] is = tt
no_more inside (t ∷ ts) is = cc

all_spelled : (ts : List (ℕ × Text)) (state : State) (z : Text) → pieces state z ≡ map (λ t. Ok t) ts → AreSpelled (is_inside state.mode) ts
all_spelled [] state z is = tt
all_spelled (t ∷ ts) state z is =
    let f = found state z in
    let more = drop (f.trivia + len_of f.scanned_text) z in
    let head = sym (pieces_are state z) ∙ is in
    let first : f.scanned_text ≡ Ok t = cc in
    let rest : cond (goes_on f.scanned_text) (pieces (state_after_scan state f.scanned_text) more) [] ≡ map (λ t. Ok t) ts = cc in
    let next : is_inside (state_after_scan state f.scanned_text).mode ≡ in_braces_after (is_inside state.mode) t.0 = ap (λ w. is_inside (state_after_scan state w).mode) first ∙ after_inside state t.0 in (
      λ out. subst SpelledPieceText first (found_spelled state z out),
      elim (goes_on f.scanned_text) as (λ b. cond b (pieces (state_after_scan state f.scanned_text) more) [] ≡ map (λ t. Ok t) ts → AreSpelled (in_braces_after (is_inside state.mode) t.0) ts) [
        | true ↦ λ e. subst (λ b. AreSpelled b ts) next (all_spelled ts (state_after_scan state f.scanned_text) more e)
        | false ↦ λ e. no_more _ ts e
      ] rest,
    )

by_result : (s : Text) (r : Result (List Lexeme) LexFault) (ts : List (ℕ × Text)) → lex s ≡ r → result_texts s r ≡ Ok ts → AreSpelled false ts
by_result s (Ok xs) ts lexed is =
    let same : slice_texts s xs ≡ ts = cc in
    all_spelled ts start s ((spans s xs lexed).1 ∙ ap (map (λ t. Ok t)) same)
by_result s (Err f) ts lexed is = cc

pub tokens_are_spelled : Spelled
tokens_are_spelled s ts is = by_result s (lex s) ts refl is
