-- What parses an atom, by its first token. Private: nothing rests on believing it.
use Rattle.std.specs.Prelude.{ℕ, if◌then◌else◌, Option, List, [], ◌∷◌, Some, Err}
use Rattle.std.specs.Option.{option_map_or}
use Rattle.promql_text.specs.Texts.{Text}
use Rattle.promql_grammar.specs.declared.token_kinds.TokenKind.{TokenKind}
use Rattle.promql_grammar.specs.declared.token_kinds.TokenKind.TheVariants as kind
use Rattle.promql_grammar.specs.Results.{◌then◌}
use Rattle.promql_grammar.specs.Symbols.{Symbol, symbol, may_be_name}
use Rattle.promql_grammar.specs.Grammar as grammar
use Rattle.promql_grammar.specs.GrammarParts as part
use Rattle.promql_grammar.specs.Parsing.{Read, misfit, parse_braces, parse_selector, parse_postfixes}
use Rattle.promql_label.specs.PlainMatchers.{PlainMatchers, plain_matchers}
use Rattle.promql_syntax.specs.Asking.{Asking, gives}
use Rattle.promql_syntax.specs.PartBuilding.{braces_value}

-- the matchers of a selector that may have braces
abbrev pub any_braces_value : Option part.Braces → Asking PlainMatchers
any_braces_value b = option_map_or braces_value b (gives (plain_matchers [] []))

-- a selector with braces, after the opening one
abbrev pub parse_selector_braces : ℕ → ℕ → TokenKind → Text → List Symbol → Read grammar.Derivation
parse_selector_braces k n w t ts = parse_braces ts then λ b. parse_postfixes k n (grammar.selector w t (Some b.0)) b.1

-- a selector after its name, or a token that is none
abbrev pub parse_named : ℕ → ℕ → TokenKind → Text → List Symbol → Read grammar.Derivation
parse_named k n w t ts = if may_be_name w then parse_selector k n w t ts else Err (misfit (symbol w t ∷ ts))

-- an atom, after its first token, or a token that begins none
abbrev pub parse_atom : ℕ → ℕ → TokenKind → Text → List Symbol → Read grammar.Derivation
parse_atom k n kind.Number t ts = parse_postfixes k n (grammar.number t) ts
parse_atom k n kind.Duration t ts = parse_postfixes k n (grammar.duration t) ts
parse_atom k n kind.String t ts = parse_postfixes k n (grammar.string t) ts
parse_atom k n kind.LeftBrace t ts = parse_braces ts then λ b. parse_postfixes k n (grammar.nameless b.0) b.1
parse_atom k n w t ts = parse_named k n w t ts
