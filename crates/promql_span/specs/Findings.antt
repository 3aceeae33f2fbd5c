-- What parsing finds to be wrong, by the indexes of tokens. Private: nothing rests on believing it.
use Rattle.std.specs.Prelude.{◌≡◌, ◌<◌, length}
use Rattle.promql_text.specs.Texts.{Text}
use Rattle.promql_grammar.specs.Misfits.{AreMisfits}
use Rattle.promql_grammar.specs.declared.read_error.ReadError.{ReadError}
use Rattle.promql_grammar.specs.declared.read_error.ReadError.TheVariants.{Memory, Syntax, TooDeep}
use Rattle.promql_span.specs.PlacedTokens.{first_span, last_tokens, placed_tokens, symbols_at}
use Rattle.promql_span.specs.ErrorPlaces.{IsAtError}
use Rattle.promql_grammar.specs.Grammar.{Derivation}
use Rattle.promql_syntax.specs.BuildErrors.{BuildError}
use Rattle.promql_syntax.specs.FaultTokens.{IsFirstFault, Subexpression, fault_tokens, subexpressions}
use Rattle.promql_syntax.specs.ParseAnswers.{Derives, PlainParseError, fault, plain_error_of, too_deep}
use Rattle.promql_syntax.specs.Placing.{AreTokens}
use Rattle.promql_syntax.specs.declared.grammar.place.Place.{Place}
use Rattle.promql_span.specs.declared.span.Span.{Span}
use Rattle.promql_span.specs.declared.diagnosis.Finding.{Finding}
use Rattle.promql_span.specs.declared.diagnosis.Finding.TheVariants.{Misfit, Fault}
use Rattle.promql_syntax.specs.declared.parser.ParseError.{ParseError}
use Rattle.promql_syntax.specs.declared.parser.ParseError.TheVariants as errors

-- no expression goes on with the first of the tokens that are left
abbrev pub IsMisfit : Text → Finding → Type 0
IsMisfit s (Misfit left) = AreMisfits (symbols_at s (placed_tokens s)) (symbols_at s (last_tokens left (placed_tokens s)))
IsMisfit s (Fault place) = ⊥

-- a fault of building is that of the first expression in the text's derivation that does not build, and this is the place of its tokens
pub record IsPlacedFault (s : Text) (e : BuildError) (place : Place) : Type 0 where
  pub derivation : Derivation
  pub derives : Derives s derivation
  pub sub : Subexpression
  pub first : IsFirstFault e (subexpressions 0 derivation) sub
  pub there : AreTokens (length (placed_tokens s)) (fault_tokens e sub.0 sub.1) place

abbrev pub IsPlacedError : Text → PlainParseError → Place → Type 0
IsPlacedError s (fault e) place = IsPlacedFault s e place
IsPlacedError s e place = Unit {0}

-- the text has tokens, which are at fault
abbrev pub HasFault : Text → PlainParseError → Finding → Type 0
HasFault s e (Misfit left) = ⊥
HasFault s e (Fault place) = (0 < length (placed_tokens s)) × IsPlacedError s e place

-- what an error tells of what was found
abbrev pub IsFound : Text → ParseError → Finding → Type 0
IsFound s errors.Memory found = Unit {0}
IsFound s (errors.Lex f) found = Unit {0}
IsFound s errors.Empty found = Unit {0}
IsFound s errors.Syntax found = IsMisfit s found
IsFound s e found = HasFault s (plain_error_of e) found

-- what was found of tokens that are no expression
abbrev pub IsFindingOf : Text → ReadError → Finding → Type 0
IsFindingOf s Memory found = Unit {0}
IsFindingOf s Syntax found = IsMisfit s found
IsFindingOf s TooDeep found = HasFault s too_deep found

-- the part of the text that was found
abbrev pub IsFoundAt : Text → ParseError → Finding → Span → Type 0
IsFoundAt s e (Misfit left) span = span ≡ first_span s (last_tokens left (placed_tokens s))
IsFoundAt s e (Fault place) span = HasFault s (plain_error_of e) (Fault place) → IsAtError s e span
