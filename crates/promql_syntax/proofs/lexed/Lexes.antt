-- Printed items that the lexer reads as their tokens (docs/reference/printing.md, "Nodes").
use Rattle.std.specs.Prelude.{◌≡◌, ℕ, Bool, true, not, ◌&&◌, ◌||◌, ◌==◌, List, [], ◌∷◌, ◌++◌, codes, map, slice_index, Ok}
use Rattle.std.specs.List.{list_any}
use Rattle.promql_text.specs.Texts.{Text, code}
use Rattle.promql_token.specs.Classes.{is_in}
use Rattle.promql_token.specs.Lexing.{pieces}
use Rattle.promql_token.specs.TokenScanning.{opens}
use Rattle.promql_token.specs.declared.class.Class.TheVariants as class
use Rattle.promql_token.specs.declared.state.Mode.TheVariants as mode
use Rattle.promql_token.specs.declared.state.State.{State}
use Rattle.promql_grammar.specs.Symbols.{symbol_of}
use Rattle.promql_grammar.specs.SourceTokens.{Token}
use Rattle.promql_syntax.proofs.printed.PrintedItems.{Item, render, strip}

-- outside braces and brackets, with so many open parentheses
abbrev pub at_depth : ℕ → State
at_depth depth = record { depth = depth; mode = mode.Outside }

-- before any text, the bytes of the items are read as their tokens, from the first state to the second
abbrev pub Lexes : State → State → List Item → Type 0
Lexes before after is =
    (r : Text) → (ts : List Token) × (map symbol_of ts ≡ strip is) × (pieces before (render is ++ r) ≡ map (λ t. Ok t) ts ++ pieces after r)

-- ---- before some texts

-- white space, `)`, `,` and `[`
abbrev pub is_break : ℕ → Bool
is_break b = list_any (λ k. b == k) (code "\n" ∷ codes " ),[")

-- what may follow an expression: nothing, or one of these, and no `(` after white space
abbrev pub is_clear : Text → Bool
is_clear [] = true
is_clear (b ∷ r) = is_break b && not (opens (b ∷ r))

-- what may follow a keyword
abbrev pub ends_word : Text → Bool
ends_word r = not (is_in class.Word (slice_index r 0))

-- what may follow an operator
abbrev pub ends_operator : Text → Bool
ends_operator r = let b = slice_index r 0 in ends_word r && not (b == code "=" || b == code "~")

-- before any text that passes the test, the bytes of the items are read as their tokens, from the first state to the second
abbrev pub LexesBefore : (Text → Bool) → State → State → List Item → Type 0
LexesBefore test before after is =
    (r : Text) → test r ≡ true → (ts : List Token) × (map symbol_of ts ≡ strip is) × (pieces before (render is ++ r) ≡ map (λ t. Ok t) ts ++ pieces after r)
