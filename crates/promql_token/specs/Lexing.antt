-- The token list of a text: trivia, token, trivia, token, .., end or fault (docs/reference/tokens.md,
-- "The token list of a text").
use Rattle.std.specs.Prelude.{◌≡◌, ℕ, zero, suc, ◌+◌, ◌-◌, Bool, false, not, if◌then◌else◌, ◌==◌, List, [], ◌∷◌, ◌++◌, length, take, drop, map, slice_get, Option, None, Result, Ok, Err}
use Rattle.std.specs.Str.{chars}
use Rattle.promql_token.specs.declared.ids.TheConstants.{T_EOF}
use Rattle.promql_token.specs.declared.lexeme.Lexeme.{Lexeme}
use Rattle.promql_token.specs.declared.fault.LexFault.{LexFault}
use Rattle.promql_token.specs.declared.fault.LexFaultKind.{LexFaultKind}
use Rattle.promql_token.specs.declared.fault.LexError.{LexError}
use Rattle.promql_token.specs.declared.fault.LexError.TheVariants as errors
use Rattle.promql_token.specs.declared.state.Mode.TheVariants as mode
use Rattle.promql_token.specs.declared.state.State.{State}
use Rattle.promql_text.specs.Texts.{Text}
use Rattle.promql_token.specs.LexicalFaults.{has_char}
use Rattle.promql_token.specs.TokenScanning.{Scanned, trivia_len, scan_token, after_trivia, after}

-- a token's id and text; or a fault, how far it is from the piece's front, and the character there, for the kinds that show it
abbrev pub ScannedText : Type 0
ScannedText = Result (ℕ × Text) (LexFaultKind × ℕ × Option ℕ)

-- the first character of the text, for the kinds that show it
abbrev pub fault_char : LexFaultKind → Text → Option ℕ
fault_char kind z = if has_char kind then slice_get (chars z) 0 else None

-- a fault of this kind at this place of a text
abbrev pub fault_at : Text → LexFaultKind → ℕ → LexFault
fault_at s kind at = record { kind = kind; at = at; ch = fault_char kind (drop at s) }

-- of a text with no trivia at its front
abbrev pub scanned_text : Scanned → Text → ScannedText
scanned_text (Ok t) z = Ok (t.0, take t.1 z)
scanned_text (Err f) z = Err (f.0, f.1, fault_char f.0 (drop f.1 z))

-- a trivia's length, and what comes after it
pub record Found : Type 0 where
  pub trivia : ℕ
  pub scanned_text : ScannedText

unfoldable pub found : State → Text → Found
found state z =
    let trivia = trivia_len state.mode z in
    let rest = drop trivia z in
    record { trivia = trivia; scanned_text = scanned_text (scan_token (after_trivia trivia state) rest) rest }

-- how many bytes it takes, whether the text goes on after it, and the state there
abbrev pub len_of : ScannedText → ℕ
len_of (Ok t) = length t.1
len_of (Err f) = 0

abbrev pub goes_on : ScannedText → Bool
goes_on (Ok t) = not (t.0 == T_EOF)
goes_on (Err f) = false

abbrev pub state_after_scan : State → ScannedText → State
state_after_scan state (Ok t) = after state t.0
state_after_scan state (Err f) = state

-- What the text is cut into. `left` bytes of the trivia and the token are still to be passed.
abbrev pub cut_from : ℕ → State → Text → List Found
cut_from left state [] = found state [] ∷ []
cut_from (suc left) state (b ∷ z) = cut_from left state z
cut_from zero state (b ∷ z) =
    let f = found state (b ∷ z) in
    if goes_on f.scanned_text then f ∷ cut_from (f.trivia + len_of f.scanned_text - 1) (state_after_scan state f.scanned_text) z else f ∷ []

unfoldable pub cut : State → Text → List Found
cut = cut_from 0

-- the same without the trivia: the tokens' ids and texts up to the end, or up to the fault
abbrev pub pieces : State → Text → List ScannedText
pieces state z = map (λ f. f.scanned_text) (cut state z)

-- the same, with the places of tokens and faults in a text whose byte `at` is the next
abbrev pub item : ℕ → ScannedText → Result Lexeme LexFault
item at (Ok t) = Ok (record { id = t.0; start = at; len = length t.1 })
item at (Err f) = Err (record { kind = f.0; at = at + f.1; ch = f.2 })

abbrev pub first : ℕ → Found → Result Lexeme LexFault
first at f = item (at + f.trivia) f.scanned_text

abbrev pub place_items : ℕ → List Found → List (Result Lexeme LexFault)
place_items at [] = []
place_items at (f ∷ fs) = first at f ∷ place_items (at + f.trivia + len_of f.scanned_text) fs

-- the state of a text's first place
abbrev pub start : State
start = record { depth = 0; mode = mode.Outside }

-- the tokens of a text up to its end, or up to its fault, and the fault
abbrev pub items : Text → List (Result Lexeme LexFault)
items s = place_items 0 (cut start s)

abbrev pub with_front : List Lexeme → Result (List Lexeme) LexFault → Result (List Lexeme) LexFault
with_front front (Ok xs) = Ok (front ++ xs)
with_front front (Err e) = Err e

-- all tokens, or the fault
abbrev pub collect_items : List (Result Lexeme LexFault) → Result (List Lexeme) LexFault
collect_items [] = Ok []
collect_items (Ok x ∷ rs) = with_front (x ∷ []) (collect_items rs)
collect_items (Err e ∷ rs) = Err e

-- the token list of a text, or its fault
unfoldable pub lex : Text → Result (List Lexeme) LexFault
lex s = collect_items (items s)

-- ---- the tokens by their texts

-- a token's text is the slice at its span
abbrev pub text_at : Text → Lexeme → Text
text_at s x = take x.len (drop x.start s)

-- the tokens' ids and texts
abbrev pub slice_texts : Text → List Lexeme → List (ℕ × Text)
slice_texts s xs = map (λ x. (x.id, text_at s x)) xs

abbrev pub result_texts : Text → Result (List Lexeme) LexFault → Result (List (ℕ × Text)) LexFault
result_texts s (Ok xs) = Ok (slice_texts s xs)
result_texts s (Err f) = Err f

-- the token list of a text by ids and texts, or its fault
abbrev pub tokens : Text → Result (List (ℕ × Text)) LexFault
tokens s = result_texts s (lex s)

-- ---- contracts

-- a call answered what the text has, or out of memory
abbrev pub Fails : LexError → Result (List Lexeme) LexFault → Type 0
Fails errors.Memory lexed = Unit {0}
Fails (errors.Fault f) lexed = lexed ≡ Err f

abbrev pub Gives : {X : Type 0} → (X → List Lexeme) → Result X LexError → Result (List Lexeme) LexFault → Type 0
Gives view (Ok x) lexed = lexed ≡ Ok (view x)
Gives view (Err e) lexed = Fails e lexed
