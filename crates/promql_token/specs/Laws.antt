-- What goes on with a token, and what does not: the statements of lemmas. Private: nothing rests on believing it.
use Rattle.std.specs.Prelude.{◌≡◌, ℕ, ◌+◌, ◌-◌, ◌<◌, ◌≤◌, Bool, true, false, not, ◌&&◌, ◌||◌, if◌then◌else◌, ◌==◌, List, [], ◌∷◌, ◌++◌, length, take, drop, map, slice_index, Ok}
use Rattle.std.specs.Char.{is_ascii_digit}
use Rattle.promql_token.specs.declared.class.Class.TheVariants as class
use Rattle.promql_token.specs.declared.lexeme.Lexeme.{Lexeme}
use Rattle.promql_token.specs.declared.state.Mode.{Mode}
use Rattle.promql_token.specs.declared.state.Mode.TheVariants as mode
use Rattle.promql_token.specs.declared.state.State.{State}
use Rattle.promql_text.specs.Texts.{Text, code}
use Rattle.promql_token.specs.Classes.{is_in, is_label, is_letter}
use Rattle.promql_token.specs.Lexing.{pieces, start, lex, tokens, slice_texts}
use Rattle.promql_token.specs.TokenScanning.{begins_numeral, trivia_from, scan_token, after}
use Rattle.promql_token.specs.Vocabulary.{braces_id, is_quote, word_id}
pub use Rattle.promql_token.specs.Vocabulary.{is_exponent, is_sign, is_word}

-- ---- spans

-- white space and comments, and nothing else
abbrev pub IsTrivia : Text → Type 0
IsTrivia g = trivia_from false g ≡ length g

-- from `at` on the spans are in order, and only trivia lie between them
abbrev pub InOrder : Text → ℕ → List Lexeme → Type 0
InOrder s at [] = Unit {0}
InOrder s at (x ∷ xs) = (at ≤ x.start) × IsTrivia (take (x.start - at) (drop at s)) × (x.start + x.len ≤ length s) × InOrder s (x.start + x.len) xs

-- the tokens of a text have its spans in order, and their texts are the slices there
abbrev pub Spans : Type 0
Spans = (s : Text) (xs : List Lexeme) → lex s ≡ Ok xs → InOrder s 0 xs × (pieces start s ≡ map (λ t. Ok t) (slice_texts s xs))

-- a text whose pieces are all tokens has these tokens
abbrev pub Lexes : Type 0
Lexes = (s : Text) (ts : List (ℕ × Text)) → pieces start s ≡ map (λ t. Ok t) ts → tokens s ≡ Ok ts

-- ---- neighbours

-- the text r doesn't go on with the numeral w
abbrev pub stops_numeral : Text → Text → Bool
stops_numeral w r =
    let c = slice_index r 0 in
    not (is_in class.Name c) && not (c == code ".") && not (is_sign c && is_exponent (slice_index w (length w - 1)))

-- nor with a punctuator that may be longer
abbrev pub stops_punctuator : Text → Text → Bool
stops_punctuator w r =
    let b = slice_index w 0 in
    let c = slice_index r 0 in
    not (length w == 1 && (b == code "=" || b == code "<" || b == code ">") && (c == code "=" || c == code "~"))

-- nor with any token w outside; a fill word stays what it is
abbrev pub parts_outside : Text → Text → Bool
parts_outside w r =
    let b = slice_index w 0 in
    if begins_numeral w then stops_numeral w r
    else (if is_letter b || b == code ":" then not (is_in class.Word (slice_index r 0)) && word_id w r == word_id w []
    else (if is_quote b then true else stops_punctuator w r))

-- nor in braces; `or` stays what it is
abbrev pub parts_in_braces : Text → Text → Bool
parts_in_braces w r =
    let b = slice_index w 0 in
    if is_letter b then not (is_in class.Name (slice_index r 0)) && braces_id w r == braces_id w []
    else (if is_quote b then true else stops_punctuator w r)

-- nor in brackets
abbrev pub parts_in_brackets : Text → Text → Bool
parts_in_brackets w r = if is_ascii_digit (slice_index w 0) then stops_numeral w r else true

abbrev pub parts : Mode → Text → Text → Bool
parts mode.Outside w r = parts_outside w r
parts mode.Braces w r = parts_in_braces w r
parts (mode.Brackets inside) w r = parts_in_brackets w r

-- what is one token alone is that token before a text that doesn't go on with it
abbrev pub Joins : Type 0
Joins = (state : State) (w r : Text) (id : ℕ) → 0 < length w → scan_token state w ≡ Ok (id, length w) → parts state.mode w r ≡ true
    → pieces state (w ++ r) ≡ Ok (id, w) ∷ pieces (after state id) r

-- a word outside, also a fill word
abbrev pub JoinsWord : Type 0
JoinsWord = (depth : ℕ) (w r : Text) → is_word w ≡ true → is_in class.Word (slice_index r 0) ≡ false
    → let state : State = record { depth = depth; mode = mode.Outside } in pieces state (w ++ r) ≡ Ok (word_id w r, w) ∷ pieces state r

-- a word in braces, also `or`
abbrev pub JoinsName : Type 0
JoinsName = (depth : ℕ) (w r : Text) → is_label w ≡ true → is_in class.Name (slice_index r 0) ≡ false
    → let state : State = record { depth = depth; mode = mode.Braces } in pieces state (w ++ r) ≡ Ok (braces_id w r, w) ∷ pieces state r
