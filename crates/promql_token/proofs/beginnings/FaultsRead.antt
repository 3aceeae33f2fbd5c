-- A fault that is told by what is there is what is read there.
use Rattle.std.proofs.Common.{◌≡◌, ℕ, zero, suc, ◌<◌, Bool, true, false, cond, [], ◌∷◌, ◌++◌, length, take, drop, Some, Ok, Err, refl, sym, ap, ◌∙◌, subst, arith, eqb-true}
use Rattle.std.specs.Prelude.{◌==◌, ◌&&◌, ◌||◌, codes, slice_get}
use Rattle.std.specs.Char.{is_ascii_digit}
use Rattle.std.specs.List.{concat, list_any}
use Rattle.std.proofs.lemmas.Grind.{common_steps}
use Rattle.std.proofs.lemmas.List.{take-append-drop}
use Rattle.promql_token.specs.declared.class.Class.TheVariants as class
use Rattle.promql_token.specs.declared.fault.LexFaultKind.{LexFaultKind}
use Rattle.promql_token.specs.declared.fault.LexFaultKind.TheVariants.{UnclosedParen, AfterEqual, AfterBang, BangAtEnd, AfterDot, DotAtEnd, RightParen, RightBrace, RightBracket, Character, Numeral, Escape, EscapeAtEnd, OpenString, AfterBangInBraces, BraceInBraces, InBraces, EndInBraces, SecondColon, FirstColon, BracketInBrackets, InBrackets, EndInBrackets}
use Rattle.promql_token.specs.declared.state.Bracket.{Bracket}
use Rattle.promql_token.specs.declared.state.Bracket.TheVariants as bracket
use Rattle.promql_token.specs.declared.state.Mode.{Mode}
use Rattle.promql_token.specs.declared.state.Mode.TheVariants as mode
use Rattle.promql_token.specs.declared.state.State.{State}
use Rattle.promql_text.specs.Texts.{Text}
use Rattle.promql_token.specs.Begins.{IsNumeral}
use Rattle.promql_token.specs.Classes.{is_in, is_letter}
use Rattle.promql_token.specs.FaultPlaces.{IsEscaping, IsFault, Meets, Misses, NoNumeral}
use Rattle.promql_token.specs.Ids.{is_one_of}
use Rattle.promql_token.specs.Vocabulary.{next}
use Rattle.promql_token.specs.TokenScanning.{Scanned, begins_numeral, in_braces, in_brackets, is_quote, numeral, outside, scan_token, punctuator, string, word}
use Rattle.promql_token.specs.Printed.{holds_strings}
use Rattle.promql_token.proofs.cursors.TestsAndCounts.{not_one, not_zero, or_false}
use Rattle.promql_token.proofs.values.Numerals.{NumeralSays, numeral_says}
use Rattle.promql_token.proofs.beginnings.ReadBeginnings.{digit_first, string_first}
use Rattle.promql_token.proofs.values.Strings.{body_quote, escaping_quote, string_at_end, string_unclosed, string_unknown}

abbrev at_state : Mode → ℕ → State
at_state m depth = record { depth = depth; mode = m }

-- a text after which the fault is
abbrev HasFault : LexFaultKind → Mode → ℕ → Text → Text → Type 0
HasFault kind m depth u v = scan_token (at_state m depth) (u ++ v) ≡ Err (kind, length u)

-- a byte that is there
meets : (P : Text → Text → Type 0) (w : Text) (b : ℕ) (u v : Text) → 0 < b → ((y : Text) → P w (b ∷ y)) → Meets w b u v → P u v
meets P w b u [] some h is = let none : (0 == b) ≡ false = grind (arith, common_steps) in let e = is.1 in absurd (cc)
meets P w b u (c ∷ v) some h is = subst (λ u. P u (c ∷ v)) (sym is.0) (subst (λ c. P w (c ∷ v)) (sym (eqb-true c b is.1)) (h v))

-- another byte
misses : (P : Text → Text → Type 0) (w : Text) (p : ℕ → Bool) (u v : Text) → ((c : ℕ) (y : Text) → p c ≡ false → P w (c ∷ y)) → Misses w p u v → P u v
misses P w p u [] h is = let some = is.1 in absurd (omega arith)
misses P w p u (c ∷ v) h is = subst (λ u. P u (c ∷ v)) (sym is.0) (h c v is.2)

-- none of some bytes
none_of : (ks : Text) (b i k : ℕ) → list_any (λ k. b == k) ks ≡ false → slice_get ks i ≡ Some k → (b == k) ≡ false
none_of [] b i k h is = absurd (cc)
none_of (c ∷ ks) b zero k h is = let same : c ≡ k = cc in subst (λ k. (b == k) ≡ false) same (or_false (b == c) (list_any (λ k. b == k) ks) h).0
none_of (c ∷ ks) b (suc i) k h is = none_of ks b i k (or_false (b == c) (list_any (λ k. b == k) ks) h).1 is

-- ---- outside

unclosed_paren_at_end : (depth : ℕ) (u v : Text) → (u ≡ []) × (v ≡ []) → HasFault UnclosedParen mode.Outside (suc depth) u v
unfolding scan_token
unclosed_paren_at_end depth u v h = subst (λ u. HasFault UnclosedParen mode.Outside (suc depth) u v) (sym h.0) (subst (λ v. HasFault UnclosedParen mode.Outside (suc depth) [] v) (sym h.1) (rw (not_zero depth) refl))

equal_at : (depth : ℕ) (y : Text) → HasFault AfterEqual mode.Outside depth (codes "=") (126 ∷ y)
unfolding scan_token outside punctuator
equal_at depth y = refl

bang_at : (depth c : ℕ) (y : Text) → (c == 61) ≡ false → HasFault AfterBang mode.Outside depth (codes "!") (c ∷ y)
unfolding scan_token outside punctuator
bang_at depth c y h = rw (not_one (length y), h) refl

bang_end : (m : Mode) (depth : ℕ) → holds_strings m ≡ true → HasFault BangAtEnd m depth (codes "!") []
unfolding scan_token outside punctuator in_braces
bang_end mode.Outside depth h = refl
bang_end mode.Braces depth h = refl
bang_end (mode.Brackets inside) depth h = absurd (cc)

dot_at : (depth c : ℕ) (y : Text) → is_ascii_digit c ≡ false → HasFault AfterDot mode.Outside depth (codes ".") (c ∷ y)
unfolding scan_token outside punctuator
dot_at depth c y h = rw (h, not_one (length y)) refl

dot_end : (depth : ℕ) → HasFault DotAtEnd mode.Outside depth [] (codes ".")
unfolding scan_token outside punctuator
dot_end depth = refl

right_paren_at : (y : Text) → HasFault RightParen mode.Outside zero [] (41 ∷ y)
unfolding scan_token outside punctuator
right_paren_at y = refl

right_brace_at : (depth : ℕ) (y : Text) → HasFault RightBrace mode.Outside depth [] (125 ∷ y)
unfolding scan_token outside punctuator
right_brace_at depth y = refl

right_bracket_at : (depth : ℕ) (y : Text) → HasFault RightBracket mode.Outside depth [] (93 ∷ y)
unfolding scan_token outside punctuator
right_bracket_at depth y = refl

no_digit : (b : ℕ) → is_in class.Word b ≡ false → is_ascii_digit b ≡ false
no_digit b h = grind (arith, common_steps)

no_letter : (b : ℕ) → is_in class.Word b ≡ false → (is_letter b || (b == 58)) ≡ false
no_letter b h = grind (arith, common_steps)

other_punctuator : (depth b : ℕ) (y : Text) → is_one_of (codes ".@,*/%+-^{[()}]=!<>") b ≡ false → punctuator depth (b ∷ y) ≡ Err (Character, 0)
unfolding punctuator
other_punctuator depth b y h =
    let no : (i k : ℕ) → slice_get (codes ".@,*/%+-^{[()}]=!<>") i ≡ Some k → (b == k) ≡ false = λ i k is. none_of (codes ".@,*/%+-^{[()}]=!<>") b i k h is in
    rw (no 0 46 refl, no 1 64 refl, no 2 44 refl, no 3 42 refl, no 4 47 refl, no 5 37 refl, no 6 43 refl, no 7 45 refl, no 8 94 refl, no 9 123 refl, no 10 91 refl, no 11 40 refl, no 12 41 refl, no 13 125 refl, no 14 93 refl, no 15 61 refl, no 16 33 refl, no 17 60 refl, no 18 62 refl) refl

character_at : (depth b : ℕ) (y : Text) → (is_in class.Word b || (is_quote b || is_one_of (codes ".@,*/%+-^{[()}]=!<>") b)) ≡ false → HasFault Character mode.Outside depth [] (b ∷ y)
unfolding scan_token outside
character_at depth b y h =
    let a = or_false (is_in class.Word b) (is_quote b || is_one_of (codes ".@,*/%+-^{[()}]=!<>") b) h in
    let c = or_false (is_quote b) (is_one_of (codes ".@,*/%+-^{[()}]=!<>") b) a.1 in
    let n46 = none_of (codes ".@,*/%+-^{[()}]=!<>") b 0 46 c.1 refl in
    let z : Text = b ∷ y in
    let begins : begins_numeral z ≡ false = λ i. no_digit b a.0 i || (n46 i && is_ascii_digit (next y)) in
    ap (λ x. cond x (numeral z) (cond (is_letter b || (b == 58)) (word z) (cond (is_quote b) (string z) (punctuator depth z)))) begins
    ∙ ap (λ x. cond x (word z) (cond (is_quote b) (string z) (punctuator depth z))) (no_letter b a.0) ∙ ap (λ x. cond x (string z) (punctuator depth z)) c.0 ∙ other_punctuator depth b y c.1

-- ---- numerals

no_numeral : (z : Text) → begins_numeral z ≡ true → ((id : ℕ) (w r : Text) → z ≡ w ++ r → IsNumeral id w r → ⊥) → numeral z ≡ Err (Numeral, 0)
no_numeral z begins none = cases (numeral z) (numeral_says z begins)
  where
    cases : (p : Scanned) → NumeralSays z p → p ≡ Err (Numeral, 0)
    cases (Ok t) h = absurd (none t.0 (take t.1 z) (drop t.1 z) (sym (take-append-drop t.1 z)) h)
    cases (Err f) h = ap (λ f. Err f) h.0

numeral_at : (depth : ℕ) (u v : Text) → begins_numeral v ≡ true → NoNumeral u v → HasFault Numeral mode.Outside depth u v
unfolding scan_token outside
numeral_at depth u [] begins h = absurd (cc)
numeral_at depth u (b ∷ y) begins h =
    let z : Text = b ∷ y in
    subst (λ u. HasFault Numeral mode.Outside depth u z) (sym h.0)
    (ap (λ x. cond x (numeral z) (cond (is_letter b || (b == 58)) (word z) (cond (is_quote b) (string z) (punctuator depth z)))) begins ∙ no_numeral z begins h.1)

numeral_in_brackets : (inside : Bracket) (depth : ℕ) (u v : Text) → is_ascii_digit (next v) ≡ true → NoNumeral u v → HasFault Numeral (mode.Brackets inside) depth u v
unfolding scan_token
numeral_in_brackets inside depth u [] digit h = absurd (cc)
numeral_in_brackets inside depth u (b ∷ y) digit h =
    let z : Text = b ∷ y in
    subst (λ u. HasFault Numeral (mode.Brackets inside) depth u z) (sym h.0) (digit_first inside b y digit ∙ no_numeral z (ap (λ c. c || ((b == 46) && is_ascii_digit (next y))) digit) h.1)

-- ---- strings

string_piece : (m : Mode) (depth b : ℕ) (y : Text) → holds_strings m ≡ true → is_quote b ≡ true → scan_token (at_state m depth) (b ∷ y) ≡ string (b ∷ y)
unfolding scan_token
string_piece m depth b y holds quote = string_first m depth b y holds quote

escaping_piece : (m : Mode) (depth quote : ℕ) (u v : Text) → holds_strings m ≡ true → IsEscaping quote u → scan_token (at_state m depth) (u ++ v) ≡ string (u ++ v)
escaping_piece m depth quote u v holds h =
    subst (λ u. scan_token (at_state m depth) (u ++ v) ≡ string (u ++ v)) (sym h.3) (string_piece m depth quote ((concat h.1 ++ 92 ∷ []) ++ v) holds (escaping_quote quote h.0))

-- ---- in braces

bang_in_braces_at : (depth c : ℕ) (y : Text) → (c == 61 || c == 126) ≡ false → HasFault AfterBangInBraces mode.Braces depth (codes "!") (c ∷ y)
unfolding scan_token in_braces
bang_in_braces_at depth c y h = let no = or_false (c == 61) (c == 126) h in rw (not_one (length y), no.0, no.1) refl

brace_at : (depth : ℕ) (y : Text) → HasFault BraceInBraces mode.Braces depth [] (123 ∷ y)
unfolding scan_token in_braces
brace_at depth y = refl

other_in_braces : (depth b : ℕ) (y : Text) → (is_letter b || (is_quote b || is_one_of (codes ",=!{}") b)) ≡ false → HasFault InBraces mode.Braces depth [] (b ∷ y)
unfolding scan_token in_braces
other_in_braces depth b y h =
    let a = or_false (is_letter b) (is_quote b || is_one_of (codes ",=!{}") b) h in
    let c = or_false (is_quote b) (is_one_of (codes ",=!{}") b) a.1 in
    let no : (i k : ℕ) → slice_get (codes ",=!{}") i ≡ Some k → (b == k) ≡ false = λ i k is. none_of (codes ",=!{}") b i k c.1 is in
    rw (no 0 44 refl, no 1 61 refl, no 2 33 refl, no 3 123 refl, no 4 125 refl, a.0, c.0) refl

end_in_braces : (depth : ℕ) → HasFault EndInBraces mode.Braces depth [] []
unfolding scan_token
end_in_braces depth = refl

-- ---- in brackets

second_colon : (depth : ℕ) (y : Text) → HasFault SecondColon (mode.Brackets bracket.Colon) depth [] (58 ∷ y)
unfolding scan_token in_brackets
second_colon depth y = refl

first_colon : (depth : ℕ) (y : Text) → HasFault FirstColon (mode.Brackets bracket.Nothing) depth [] (58 ∷ y)
unfolding scan_token in_brackets
first_colon depth y = refl

bracket_at : (inside : Bracket) (depth : ℕ) (y : Text) → HasFault BracketInBrackets (mode.Brackets inside) depth [] (91 ∷ y)
unfolding scan_token in_brackets
bracket_at inside depth y = refl

other_in_brackets : (inside : Bracket) (depth b : ℕ) (y : Text) → (is_ascii_digit b || is_one_of (codes ":[]") b) ≡ false → HasFault InBrackets (mode.Brackets inside) depth [] (b ∷ y)
unfolding scan_token in_brackets
other_in_brackets inside depth b y h =
    let a = or_false (is_ascii_digit b) (is_one_of (codes ":[]") b) h in
    let no : (i k : ℕ) → slice_get (codes ":[]") i ≡ Some k → (b == k) ≡ false = λ i k is. none_of (codes ":[]") b i k a.1 is in
    rw (no 0 58 refl, no 1 91 refl, no 2 93 refl, a.0) refl

end_in_brackets : (inside : Bracket) (depth : ℕ) → HasFault EndInBrackets (mode.Brackets inside) depth [] []
unfolding scan_token
end_in_brackets inside depth = refl

-- ---- all kinds

both : (P : Text → Text → Type 0) (w x u v : Text) → (u ≡ w) → (v ≡ x) → P w x → P u v
both P w x u v e f h = subst (λ u. P u v) (sym e) (subst (λ v. P w v) (sym f) h)

pub fault_read : (kind : LexFaultKind) (m : Mode) (depth : ℕ) (u v : Text) → IsFault kind m depth u v → HasFault kind m depth u v
fault_read UnclosedParen mode.Outside (suc depth) u v h = unclosed_paren_at_end depth u v h
fault_read AfterEqual mode.Outside depth u v h = meets (HasFault AfterEqual mode.Outside depth) (codes "=") 126 u v (omega arith) (equal_at depth) h
fault_read AfterBang mode.Outside depth u v h = misses (HasFault AfterBang mode.Outside depth) (codes "!") (λ b. b == 61) u v (bang_at depth) h
fault_read BangAtEnd m depth u v h = both (HasFault BangAtEnd m depth) (codes "!") [] u v h.1 h.2 (bang_end m depth h.0)
fault_read AfterDot mode.Outside depth u v h = misses (HasFault AfterDot mode.Outside depth) (codes ".") is_ascii_digit u v (dot_at depth) h
fault_read DotAtEnd mode.Outside depth u v h = both (HasFault DotAtEnd mode.Outside depth) [] (codes ".") u v h.0 h.1 (dot_end depth)
fault_read RightParen mode.Outside zero u v h = meets (HasFault RightParen mode.Outside zero) [] 41 u v (omega arith) right_paren_at h
fault_read RightBrace mode.Outside depth u v h = meets (HasFault RightBrace mode.Outside depth) [] 125 u v (omega arith) (right_brace_at depth) h
fault_read RightBracket mode.Outside depth u v h = meets (HasFault RightBracket mode.Outside depth) [] 93 u v (omega arith) (right_bracket_at depth) h
fault_read Character mode.Outside depth u v h =
    misses (HasFault Character mode.Outside depth) [] (λ b. is_in class.Word b || (is_quote b || is_one_of (codes ".@,*/%+-^{[()}]=!<>") b)) u v (character_at depth) h
fault_read Numeral mode.Outside depth u v h = numeral_at depth u v h.0 h.1
fault_read Numeral (mode.Brackets inside) depth u v h = numeral_in_brackets inside depth u v h.0 h.1
fault_read Escape m depth u v h = escaping_piece m depth h.1 u v h.0 h.2 ∙ string_unknown h.1 u v h.2 h.3 h.4
fault_read EscapeAtEnd m depth u v h = subst (λ v. HasFault EscapeAtEnd m depth u v) (sym h.3) (escaping_piece m depth h.1 u [] h.0 h.2 ∙ string_at_end h.1 u h.2)
fault_read OpenString m depth u v h =
    both (HasFault OpenString m depth) [] (h.2 ∷ h.3) u v h.1 h.5 (string_piece m depth h.2 h.3 h.0 (body_quote h.2 h.3 h.4) ∙ string_unclosed h.2 h.3 h.4)
fault_read AfterBangInBraces mode.Braces depth u v h = misses (HasFault AfterBangInBraces mode.Braces depth) (codes "!") (λ b. b == 61 || b == 126) u v (bang_in_braces_at depth) h
fault_read BraceInBraces mode.Braces depth u v h = meets (HasFault BraceInBraces mode.Braces depth) [] 123 u v (omega arith) (brace_at depth) h
fault_read InBraces mode.Braces depth u v h =
    misses (HasFault InBraces mode.Braces depth) [] (λ b. is_letter b || (is_quote b || is_one_of (codes ",=!{}") b)) u v (other_in_braces depth) h
fault_read EndInBraces mode.Braces depth u v h = both (HasFault EndInBraces mode.Braces depth) [] [] u v h.0 h.1 (end_in_braces depth)
fault_read SecondColon (mode.Brackets bracket.Colon) depth u v h = meets (HasFault SecondColon (mode.Brackets bracket.Colon) depth) [] 58 u v (omega arith) (second_colon depth) h
fault_read FirstColon (mode.Brackets bracket.Nothing) depth u v h = meets (HasFault FirstColon (mode.Brackets bracket.Nothing) depth) [] 58 u v (omega arith) (first_colon depth) h
fault_read BracketInBrackets (mode.Brackets inside) depth u v h = meets (HasFault BracketInBrackets (mode.Brackets inside) depth) [] 91 u v (omega arith) (bracket_at inside depth) h
fault_read InBrackets (mode.Brackets inside) depth u v h =
    misses (HasFault InBrackets (mode.Brackets inside) depth) [] (λ b. is_ascii_digit b || is_one_of (codes ":[]") b) u v (other_in_brackets inside depth) h
fault_read EndInBrackets (mode.Brackets inside) depth u v h = both (HasFault EndInBrackets (mode.Brackets inside) depth) [] [] u v h.0 h.1 (end_in_brackets inside depth)
fault_read kind m depth u v h = absurd h
