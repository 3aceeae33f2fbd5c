-- Lexical faults and their messages (docs/reference/tokens.md, "Faults").
use Rattle.std.specs.Prelude.{Bool, if◌then◌else◌, [], ◌∷◌, ◌++◌, codes, map}
use Rattle.std.specs.Char.{encode_utf8}
use Rattle.std.specs.List.{list_any}
use Rattle.std.specs.Option.{option_map_or, unwrap_or}
use Rattle.promql_text.specs.Texts.{Text, lookup}
use Rattle.promql_token.specs.contracts.fault.LexFaultKindPartialEq.TheImpl as kinds
use Rattle.promql_token.specs.declared.fault.TheConstants.{MESSAGES}
use Rattle.promql_token.specs.declared.fault.LexFault.{LexFault}
use Rattle.promql_token.specs.declared.fault.LexFaultKind.{LexFaultKind}
use Rattle.promql_token.specs.declared.fault.LexFaultKind.TheVariants.{AfterBang, AfterDot, Character, Escape, OpenString, AfterBangInBraces, InBraces, InBrackets}

-- the kinds that show the character at fault
unfoldable pub has_char : LexFaultKind → Bool
has_char kind =
    list_any (kinds.ghosts.eq kind) (AfterBang ∷ AfterDot ∷ Character ∷ Escape ∷ OpenString ∷ AfterBangInBraces ∷ InBraces ∷ InBrackets ∷ [])

-- what comes before the character, or the whole message
unfoldable pub words : LexFaultKind → Text
words kind = unwrap_or (lookup kinds.ghosts.eq (map (λ row. (row.0, row.1.now)) MESSAGES) kind) []

-- what comes after the character
abbrev pub message_end : LexFaultKind → Text
message_end OpenString = []
message_end kind = if has_char kind then codes "'" else []

-- what a fault prints as
abbrev pub message : LexFault → Text
message f = words f.kind ++ (option_map_or encode_utf8 f.ch [] ++ message_end f.kind)
