-- How modifiers are parsed and built. Private: nothing rests on believing it.
use Rattle.std.specs.Prelude.{◌≡◌, Bool, true, false, Option, Some, None, option_map, is_some, List, [], ◌∷◌, Result, Ok}
use Rattle.promql_text.specs.Texts.{Text}
use Rattle.promql_grammar.specs.declared.token_kinds.TokenKind.{TokenKind}
use Rattle.promql_grammar.specs.declared.token_kinds.TokenKind.TheVariants as kind
use Rattle.promql_grammar.specs.GrammarParts as part
use Rattle.promql_grammar.specs.Parsing.{Read, parse_label_list}
use Rattle.promql_grammar.specs.Results.{◌then◌}
use Rattle.promql_grammar.specs.Symbols.{Symbol, punct}
use Rattle.promql_kind.specs.Modifiers.{Clause, Cardinality, Fills, fills, Matching, matching}
use Rattle.promql_kind.specs.ModifierViews.{cardinality_of, clause_of}
use Rattle.promql_syntax.specs.declared.grammar.modifier.Matching as code
use Rattle.promql_syntax.specs.BuildErrors.{BuildError}
use Rattle.promql_syntax.specs.PartBuilding.{label_values}

-- the kinds with which a modifier begins
abbrev pub starts_modifier : TokenKind → Bool
starts_modifier kind.Bool = true
starts_modifier kind.On = true
starts_modifier kind.Ignoring = true
starts_modifier kind.Fill = true
starts_modifier kind.FillLeft = true
starts_modifier kind.FillRight = true
starts_modifier k = false

abbrev pub matching_parts : code.Matching → Cardinality × Option Clause
matching_parts m = (cardinality_of m.card, option_map clause_of m.labels)

-- a flag was read, or none
pub record ParsesFlag (given : Bool) (rest : List Symbol) (read : Read (Option Text)) : Type 0 where
  pub flag : Option Text
  pub is : read ≡ Ok (flag, rest)
  pub same : given ≡ is_some flag

-- labels in parentheses, if there are any
abbrev pub list_in : List Symbol → Read (Option part.Labels)
list_in (punct kind.LeftParen ∷ ts) = parse_label_list ts then λ l. Ok (Some l.0, l.1)
list_in ts = Ok (None, ts)

abbrev pub list_value : Option part.Labels → Result (List Text) BuildError
list_value None = Ok []
list_value (Some ls) = label_values ls

-- nothing, where there is no flag, no labels and no fill value
abbrev pub modifier_of : Bool → Cardinality × Option Clause → Fills → Option Matching
modifier_of false (c, None) (fills None None) = None
modifier_of flag m f = Some (matching m.0 m.1 flag f)
