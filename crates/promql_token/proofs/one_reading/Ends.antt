-- Where tokens and faults end: between characters, and a token but the last is not empty.
use Rattle.std.proofs.Common.{◌≡◌, ◌≢◌, ℕ, zero, suc, ◌+◌, ◌-◌, ◌<◌, ◌≤◌, Bool, true, false, not, ◌||◌, ◌&&◌, cond, [], ◌∷◌, length, get_or, take, drop, Ok, Err, refl, sym, ap, ◌∙◌, subst, inl, inr, ◌⊎◌, ⊎_elim, arith, lit<, length-drop, get_or-drop, add-zero, eqb-true}
use Rattle.std.specs.Prelude.{◌==◌}
use Rattle.std.specs.Char.{is_ascii_digit}
use Rattle.std.proofs.lemmas.Bool.{cond_both}
use Rattle.std.proofs.lemmas.Grind.{common_steps}
use Rattle.std.proofs.lemmas.List.{drop-drop, get_or_past}
use Rattle.std.proofs.str.Laws.{order}
use Rattle.promql_token.specs.declared.class.Class.{Class}
use Rattle.promql_token.specs.declared.class.Class.TheVariants as class
use Rattle.promql_token.specs.declared.state.Bracket.{Bracket}
use Rattle.promql_token.specs.declared.state.Bracket.TheVariants as bracket
use Rattle.promql_token.specs.declared.state.Mode.{Mode}
use Rattle.promql_token.specs.declared.state.Mode.TheVariants as mode
use Rattle.promql_token.specs.declared.state.State.{State}
use Rattle.promql_text.specs.Texts.{Text}
use Rattle.promql_token.specs.Classes.{is_in, is_letter, end_of_run}
use Rattle.promql_token.specs.TokenScanning.{Scanned, word, word_in_braces, is_hex, digits, past_whole, past_point, past_sign, past_exponent, number_end, units, numeral, is_quote, is_escape, string_from, string, equal_token, or_equal, bang_token, dot_token, single, punctuator, begins_numeral, outside, bang_in_braces, in_braces, colon_token, in_brackets, end_in, scan_in_mode, scan_token}
use Rattle.promql_token.proofs.one_reading.Places.{Ends, front, ends_after_low, low_eq, IsAsciiRun, run_ends, no_run, past_run, one_more, past_moves}

abbrev pub PieceEnds : Text → Scanned → Type 0
PieceEnds z (Ok t) = Ends z t.1 × (t.0 ≢ 6 → 0 < t.1)
PieceEnds z (Err f) = Ends z f.1

pub or_cases : (a b : Bool) → (a || b) ≡ true → (a ≡ true) ⊎ (b ≡ true)
or_cases true b h = inl refl
or_cases false b h = inr h

pub and_left : (a b : Bool) → (a && b) ≡ true → a ≡ true
and_left true b h = refl
and_left false b h = h

pub and_right : (a b : Bool) → (a && b) ≡ true → b ≡ true
and_right true b h = h
and_right false b h = absurd (cc)

-- ---- words

word_first : (b : ℕ) → (is_letter b || (b == 58)) ≡ true → is_in class.Word b ≡ true
word_first b h = grind (arith, common_steps)

name_first : (b : ℕ) → is_letter b ≡ true → is_in class.Name b ≡ true
name_first b h = grind (arith, common_steps)

class_ends : (c : Class) (z : Text) → Ends z (end_of_run c z 0)
class_ends c z = run_ends z _ (past_run c z 0 (no_run z))

-- ---- numerals

byte_run : (z : Text) (at n : ℕ) → IsAsciiRun z at → (get_or z at 0 == n) ≡ true → 0 < n → n < 128 → IsAsciiRun z (at + 1)
byte_run z at n r is some low = let e = eqb-true _ _ is in one_more z at r (omega arith) (omega arith)

either_run : (z : Text) (at n m : ℕ) → IsAsciiRun z at → ((get_or z at 0 == n) || (get_or z at 0 == m)) ≡ true → 0 < n → n < 128 → 0 < m → m < 128 → IsAsciiRun z (at + 1)
either_run z at n m r is some low some2 low2 =
    ⊎_elim (λ e. byte_run z at n r e some low) (λ e. byte_run z at m r e some2 low2) (or_cases (get_or z at 0 == n) (get_or z at 0 == m) is)

prefix_run : (z : Text) → is_hex z ≡ true → IsAsciiRun z 2
prefix_run z hex =
    let one = byte_run z 0 48 (no_run z) (and_left _ _ hex) (lit< tt) (lit< tt) in
    either_run z 1 120 88 one (and_right _ _ hex) (lit< tt) (lit< tt) (lit< tt) (lit< tt)

whole_run : (z : Text) → IsAsciiRun z (past_whole z)
whole_run z = cases (is_hex z) refl
  where
    cases : (h : Bool) → is_hex z ≡ h → IsAsciiRun z (end_of_run (cond h class.HexDigit class.Digit) z (cond h 2 0))
    cases true hex = past_run class.HexDigit z 2 (prefix_run z hex)
    cases false plain = past_run class.Digit z 0 (no_run z)

point_run : (c : Class) (z : Text) (at : ℕ) → IsAsciiRun z at → IsAsciiRun z (past_point c z at)
point_run c z at r =
    cond_both (get_or z at 0 == 46) _ _ (IsAsciiRun z) (λ point. past_run c z (at + 1) (byte_run z at 46 r point (lit< tt) (lit< tt))) (λ _. r)

sign_run : (z : Text) (at : ℕ) → IsAsciiRun z at → IsAsciiRun z (past_sign z at)
sign_run z at r =
    cond_both ((get_or z at 0 == 43) || (get_or z at 0 == 45)) _ _ (IsAsciiRun z)
    (λ signed. either_run z at 43 45 r signed (lit< tt) (lit< tt) (lit< tt) (lit< tt)) (λ _. r)

exponent_run : (z : Text) (at : ℕ) → IsAsciiRun z at → IsAsciiRun z (past_exponent z at)
exponent_run z at r =
    cond_both ((get_or z at 0 == 101) || (get_or z at 0 == 69)) _ _ (IsAsciiRun z)
    (λ e. past_run class.Digit z _ (sign_run z (at + 1) (either_run z at 101 69 r e (lit< tt) (lit< tt) (lit< tt) (lit< tt)))) (λ _. r)

pub number_run : (z : Text) → IsAsciiRun z (number_end z)
unfolding number_end
number_run z = exponent_run z _ (point_run (digits z) z _ (whole_run z))

point_goes : (c : Class) (z : Text) (at : ℕ) → at ≤ past_point c z at
point_goes c z at = cond_both (get_or z at 0 == 46) _ _ (λ n. at ≤ n) (λ _. omega arith) (λ _. omega arith)

sign_goes : (z : Text) (at : ℕ) → at ≤ past_sign z at
sign_goes z at = cond_both ((get_or z at 0 == 43) || (get_or z at 0 == 45)) _ _ (λ n. at ≤ n) (λ _. omega arith) (λ _. omega arith)

exponent_goes : (z : Text) (at : ℕ) → at ≤ past_exponent z at
exponent_goes z at = cond_both ((get_or z at 0 == 101) || (get_or z at 0 == 69)) _ _ (λ n. at ≤ n) (λ _. omega (arith, sign_goes z (at + 1))) (λ _. omega arith)

whole_moves : (z : Text) → 0 < length z → is_ascii_digit (get_or z 0 0) ≡ true → 0 < past_whole z
whole_moves z some digit = cases (is_hex z)
  where
    cases : (h : Bool) → 0 < end_of_run (cond h class.HexDigit class.Digit) z (cond h 2 0)
    cases true = omega arith
    cases false = past_moves class.Digit z some digit

point_moves : (c : Class) (z : Text) (at : ℕ) → (get_or z 0 0 == 46) ≡ true → 0 < past_point c z at
point_moves c z zero point = subst (λ b. 0 < cond b (end_of_run c z (0 + 1)) 0) (sym point) (omega arith)
point_moves c z (suc at) point = omega (arith, point_goes c z (suc at))

pub number_moves : (z : Text) → 0 < length z → begins_numeral z ≡ true → 0 < number_end z
unfolding number_end
number_moves z some begins =
    let at = past_whole z in
    let more = exponent_goes z (past_point (digits z) z at) in
    ⊎_elim (λ digit. omega (arith, more, point_goes (digits z) z at, whole_moves z some digit))
    (λ dot. let point = point_moves (digits z) z at (and_left _ _ dot) in omega (arith, more, point))
    (or_cases (is_ascii_digit (get_or z 0 0)) ((get_or z 0 0 == 46) && is_ascii_digit (get_or z 1 0)) begins)

pub numeral_ends : (z : Text) → 0 < length z → begins_numeral z ≡ true → PieceEnds z (numeral z)
unfolding numeral
numeral_ends z some begins =
    let end = number_end z in
    let run = end_of_run class.Name z end in
    let moves = number_moves z some begins in
    let r = number_run z in
    cond_both ((run == end) && not (get_or z end 0 == 46)) _ _ (PieceEnds z) (λ _. (run_ends z end r, λ _. moves)) (λ _.
    cond_both (units (take (run - end) (drop end z))) _ _ (PieceEnds z) (λ _. (run_ends z run (past_run class.Name z end r), λ _. omega arith)) (λ _. front z))

pub digit_begins : (z : Text) → is_ascii_digit (get_or z 0 0) ≡ true → begins_numeral z ≡ true
digit_begins z digit = ap (λ b. b || ((get_or z 0 0 == 46) && is_ascii_digit (get_or z 1 0))) digit

-- ---- strings

-- the rest at a place, one byte on
step : (z rest : Text) (at b : ℕ) → drop at z ≡ b ∷ rest → (at < length z) × (get_or z at 0 ≡ b) × (drop (at + 1) z ≡ rest)
step z rest at b is = (omega (arith, length-drop at z, ap length is), sym (ap (λ i. get_or z i 0) (add-zero at)) ∙ sym (get_or-drop at z 0 0) ∙ ap (λ l. get_or l 0 0) is, sym (drop-drop 1 at z) ∙ ap (drop 1) is)

ends_after : (z : Text) (at b : ℕ) → at < length z → get_or z at 0 ≡ b → b < 128 → Ends z (at + 1)
ends_after z at b h is low = ends_after_low z at h (omega arith)

same_low : (b quote : ℕ) → (b == quote) ≡ true → quote < 128 → b < 128
same_low b quote h low = let e = eqb-true _ _ h in omega arith

string_from_ends : (quote : ℕ) (e : Bool) (z rest : Text) (at : ℕ) → quote < 128 → drop at z ≡ rest → (e ≡ true → Ends z at) → PieceEnds z (string_from quote e at rest)
string_from_ends quote true z [] at low is h = h refl
string_from_ends quote false z [] at low is h = front z
string_from_ends quote true z (b ∷ rest) at low is h =
    cond_both (is_escape quote b) _ _ (PieceEnds z)
    (λ _. string_from_ends quote false z rest (at + 1) low (step z rest at b is).2 (λ (no : false ≡ true). cc))
    (λ _. h refl)
string_from_ends quote false z (b ∷ rest) at low is h =
    let s = step z rest at b is in
    cond_both (b == quote) _ _ (PieceEnds z)
    (λ same. (ends_after z at b s.0 s.1 (same_low b quote same low), λ _. omega arith))
    (λ _. string_from_ends quote ((b == 92) && not (quote == 96)) z rest (at + 1) low s.2 (λ slash. ends_after z at b s.0 s.1 (low_eq b 92 (and_left _ _ slash) (lit< tt))))

quote_low : (b : ℕ) → is_quote b ≡ true → b < 128
quote_low b h = grind (arith, common_steps)

string_ends : (z : Text) → is_quote (get_or z 0 0) ≡ true → PieceEnds z (string z)
unfolding string
string_ends z quote = string_from_ends (get_or z 0 0) false z (drop 1 z) 1 (quote_low _ quote) refl (λ (no : false ≡ true). cc)

-- ---- punctuators

-- the first byte, where it is this one
pub record FirstIs (z : Text) (n : ℕ) : Type 0 where
  pub some : 0 < length z
  pub is : (get_or z 0 0 == n) ≡ true
  pub low : n < 128

one : (z : Text) (n : ℕ) → FirstIs z n → Ends z 1
one z n f = let some = f.some in let low = low_eq _ n f.is f.low in record { within = omega arith; last = inr (inr (0, refl, low)) }

one_piece : (z : Text) (n id : ℕ) → FirstIs z n → PieceEnds z (Ok (id, 1))
one_piece z n id f = (one z n f, λ _. omega arith)

two : (z : Text) (n : ℕ) → (get_or z 1 0 == n) ≡ true → 0 < n → n < 128 → Ends z 2
two z n is some low =
    let e = eqb-true _ _ is in
    let within : 1 < length z = ⊎_elim (λ below. below) (λ (over : length z ≤ 1). absurd (omega (arith, get_or_past z 1 0 over))) (order 1 (length z)) in
    record { within = omega arith; last = inr (inr (1, refl, omega arith)) }

two_piece : (z : Text) (n id : ℕ) → (get_or z 1 0 == n) ≡ true → 0 < n → n < 128 → PieceEnds z (Ok (id, 2))
two_piece z n id is some low = (two z n is some low, λ _. omega arith)

equal_ends : (z : Text) → FirstIs z 61 → PieceEnds z (equal_token (get_or z 1 0))
equal_ends z f =
    cond_both (get_or z 1 0 == 61) _ _ (PieceEnds z) (λ e. two_piece z 61 _ e (lit< tt) (lit< tt)) (λ _.
    cond_both (get_or z 1 0 == 126) _ _ (PieceEnds z) (λ _. one z 61 f) (λ _. one_piece z 61 _ f))

or_equal_ends : (z : Text) (n long short : ℕ) → FirstIs z n → PieceEnds z (or_equal (get_or z 1 0) long short)
or_equal_ends z n long short f = cond_both (get_or z 1 0 == 61) _ _ (PieceEnds z) (λ e. two_piece z 61 _ e (lit< tt) (lit< tt)) (λ _. one_piece z n _ f)

bang_ends : (z : Text) → FirstIs z 33 → PieceEnds z (bang_token z)
bang_ends z f =
    cond_both (length z == 1) _ _ (PieceEnds z) (λ _. one z 33 f) (λ _.
    cond_both (get_or z 1 0 == 61) _ _ (PieceEnds z) (λ e. two_piece z 61 _ e (lit< tt) (lit< tt)) (λ _. one z 33 f))

dot_ends : (z : Text) → FirstIs z 46 → PieceEnds z (dot_token z)
dot_ends z f = cond_both (length z == 1) _ _ (PieceEnds z) (λ _. front z) (λ _. one z 46 f)

single_ends : (depth : ℕ) (z : Text) → 0 < length z → PieceEnds z (single depth (get_or z 0 0))
single_ends depth z h =
    let b = get_or z 0 0 in
    let this : (n id : ℕ) → n < 128 → (b == n) ≡ true → PieceEnds z (Ok (id, 1)) = λ n id low is. one_piece z n id (record { some = h; is = is; low = low }) in
    cond_both (b == 64) _ _ (PieceEnds z) (this 64 _ (lit< tt)) (λ _.
    cond_both (b == 44) _ _ (PieceEnds z) (this 44 _ (lit< tt)) (λ _.
    cond_both (b == 42) _ _ (PieceEnds z) (this 42 _ (lit< tt)) (λ _.
    cond_both (b == 47) _ _ (PieceEnds z) (this 47 _ (lit< tt)) (λ _.
    cond_both (b == 37) _ _ (PieceEnds z) (this 37 _ (lit< tt)) (λ _.
    cond_both (b == 43) _ _ (PieceEnds z) (this 43 _ (lit< tt)) (λ _.
    cond_both (b == 45) _ _ (PieceEnds z) (this 45 _ (lit< tt)) (λ _.
    cond_both (b == 94) _ _ (PieceEnds z) (this 94 _ (lit< tt)) (λ _.
    cond_both (b == 123) _ _ (PieceEnds z) (this 123 _ (lit< tt)) (λ _.
    cond_both (b == 91) _ _ (PieceEnds z) (this 91 _ (lit< tt)) (λ _.
    cond_both (b == 40) _ _ (PieceEnds z) (this 40 _ (lit< tt)) (λ _.
    cond_both (b == 41) _ _ (PieceEnds z) (λ e. cond_both (depth == 0) _ _ (PieceEnds z) (λ _. front z) (λ _. this 41 _ (lit< tt) e)) (λ _.
    cond_both (b == 125) _ _ (PieceEnds z) (λ _. front z) (λ _.
    cond_both (b == 93) _ _ (PieceEnds z) (λ _. front z) (λ _. front z))))))))))))))

punctuator_ends : (depth : ℕ) (z : Text) → 0 < length z → PieceEnds z (punctuator depth z)
unfolding punctuator
punctuator_ends depth z h =
    let b = get_or z 0 0 in
    let this : (n : ℕ) → n < 128 → (b == n) ≡ true → FirstIs z n = λ n low is. record { some = h; is = is; low = low } in
    cond_both (b == 46) _ _ (PieceEnds z) (λ e. dot_ends z (this 46 (lit< tt) e)) (λ _.
    cond_both (b == 61) _ _ (PieceEnds z) (λ e. equal_ends z (this 61 (lit< tt) e)) (λ _.
    cond_both (b == 60) _ _ (PieceEnds z) (λ e. or_equal_ends z 60 _ _ (this 60 (lit< tt) e)) (λ _.
    cond_both (b == 62) _ _ (PieceEnds z) (λ e. or_equal_ends z 62 _ _ (this 62 (lit< tt) e)) (λ _.
    cond_both (b == 33) _ _ (PieceEnds z) (λ e. bang_ends z (this 33 (lit< tt) e)) (λ _. single_ends depth z h)))))

-- ---- modes

outside_ends : (depth : ℕ) (z : Text) → 0 < length z → PieceEnds z (outside depth z)
unfolding outside word
outside_ends depth z h =
    let b = get_or z 0 0 in
    cond_both (begins_numeral z) _ _ (PieceEnds z) (λ n. numeral_ends z h n) (λ _.
    cond_both (is_letter b || (b == 58)) _ _ (PieceEnds z) (λ w. (class_ends class.Word z, λ _. past_moves class.Word z h (word_first b w))) (λ _.
    cond_both (is_quote b) _ _ (PieceEnds z) (λ q. string_ends z q) (λ _. punctuator_ends depth z h)))

bang_in_braces_ends : (z : Text) → FirstIs z 33 → PieceEnds z (bang_in_braces z)
bang_in_braces_ends z f =
    cond_both (length z == 1) _ _ (PieceEnds z) (λ _. one z 33 f) (λ _.
    cond_both (get_or z 1 0 == 126) _ _ (PieceEnds z) (λ e. two_piece z 126 _ e (lit< tt) (lit< tt)) (λ _.
    cond_both (get_or z 1 0 == 61) _ _ (PieceEnds z) (λ e. two_piece z 61 _ e (lit< tt) (lit< tt)) (λ _. one z 33 f)))

in_braces_ends : (z : Text) → 0 < length z → PieceEnds z (in_braces z)
unfolding in_braces word_in_braces
in_braces_ends z h =
    let b = get_or z 0 0 in
    let this : (n : ℕ) → n < 128 → (b == n) ≡ true → FirstIs z n = λ n low is. record { some = h; is = is; low = low } in
    cond_both (b == 44) _ _ (PieceEnds z) (λ e. one_piece z 44 _ (this 44 (lit< tt) e)) (λ _.
    cond_both (b == 61) _ _ (PieceEnds z)
    (λ e. cond_both (get_or z 1 0 == 126) _ _ (PieceEnds z) (λ t. two_piece z 126 _ t (lit< tt) (lit< tt)) (λ _. one_piece z 61 _ (this 61 (lit< tt) e))) (λ _.
    cond_both (b == 33) _ _ (PieceEnds z) (λ e. bang_in_braces_ends z (this 33 (lit< tt) e)) (λ _.
    cond_both (b == 123) _ _ (PieceEnds z) (λ _. front z) (λ _.
    cond_both (b == 125) _ _ (PieceEnds z) (λ e. one_piece z 125 _ (this 125 (lit< tt) e)) (λ _.
    cond_both (is_letter b) _ _ (PieceEnds z) (λ w. (class_ends class.Name z, λ _. past_moves class.Name z h (name_first b w))) (λ _.
    cond_both (is_quote b) _ _ (PieceEnds z) (λ q. string_ends z q) (λ _. front z)))))))

colon_ends : (inside : Bracket) (z : Text) → FirstIs z 58 → PieceEnds z (colon_token inside)
colon_ends bracket.Nothing z f = front z
colon_ends bracket.Something z f = one_piece z 58 _ f
colon_ends bracket.Colon z f = front z

in_brackets_ends : (inside : Bracket) (z : Text) → 0 < length z → PieceEnds z (in_brackets inside z)
unfolding in_brackets
in_brackets_ends inside z h =
    let b = get_or z 0 0 in
    let this : (n : ℕ) → n < 128 → (b == n) ≡ true → FirstIs z n = λ n low is. record { some = h; is = is; low = low } in
    cond_both (b == 58) _ _ (PieceEnds z) (λ e. colon_ends inside z (this 58 (lit< tt) e)) (λ _.
    cond_both (b == 93) _ _ (PieceEnds z) (λ e. one_piece z 93 _ (this 93 (lit< tt) e)) (λ _.
    cond_both (b == 91) _ _ (PieceEnds z) (λ _. front z) (λ _.
    cond_both (is_ascii_digit b) _ _ (PieceEnds z) (λ d. numeral_ends z h (digit_begins z d)) (λ _. front z))))

end_ends : (m : Mode) (depth : ℕ) → PieceEnds [] (end_in m depth)
end_ends mode.Outside depth = cond_both (depth == 0) _ _ (PieceEnds []) (λ _. (front [], λ ne. absurd (ne refl))) (λ _. front [])
end_ends mode.Braces depth = front []
end_ends (mode.Brackets inside) depth = front []

pub begun_ends : (m : Mode) (depth : ℕ) (z : Text) → 0 < length z → PieceEnds z (scan_in_mode m depth z)
begun_ends mode.Outside depth z h = outside_ends depth z h
begun_ends mode.Braces depth z h = in_braces_ends z h
begun_ends (mode.Brackets inside) depth z h = in_brackets_ends inside z h

pub piece_ends : (state : State) (z : Text) → PieceEnds z (scan_token state z)
unfolding scan_token
piece_ends state [] = end_ends state.mode state.depth
piece_ends state (b ∷ z) = begun_ends state.mode state.depth (b ∷ z) (omega arith)
