-- What a `Lexer` is still to give. Private: nothing rests on believing it.
use Rattle.std.specs.Prelude.{List, [], drop, Result, if◌then◌else◌}
use Rattle.promql_token.specs.declared.fault.LexFault.{LexFault}
use Rattle.promql_token.specs.declared.lexeme.Lexeme.{Lexeme}
use Rattle.promql_token.specs.declared.scan.Lexer.{Lexer}
use Rattle.promql_token.specs.Lexing.{cut, place_items}

-- the items that are to come
abbrev pub items_left : Lexer → List (Result Lexeme LexFault)
items_left l = if l.ended then [] else place_items l.cursor.at (cut l.cursor.state (drop l.cursor.at l.cursor.text.now))
