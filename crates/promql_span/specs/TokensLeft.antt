-- What a `PlacedTokens` is still to give. Private: nothing rests on believing it.
use Rattle.std.specs.Prelude.{◌==◌, List, [], ◌∷◌, if◌then◌else◌, Result, Ok, Err}
use Rattle.promql_token.specs.declared.fault.LexFault.{LexFault}
use Rattle.promql_token.specs.declared.ids.TheConstants.{T_EOF}
use Rattle.promql_token.specs.declared.lexeme.Lexeme.{Lexeme}
use Rattle.promql_token.specs.Scan.{items_left}
use Rattle.promql_span.specs.declared.placed.PlacedTokens.{PlacedTokens}

-- the tokens before the end, or before the lexical fault
abbrev pub up_to_end : List (Result Lexeme LexFault) → List Lexeme
up_to_end [] = []
up_to_end (Ok x ∷ rs) = if x.id == T_EOF then [] else x ∷ up_to_end rs
up_to_end (Err f ∷ rs) = []

-- the tokens that are to come
abbrev pub placed_left : PlacedTokens → List Lexeme
placed_left p = if p.ended then [] else up_to_end (items_left p.lexer)
