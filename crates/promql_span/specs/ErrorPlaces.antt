-- The place of an error in its text (docs/reference/grammar.md, "Places of errors").
use Rattle.std.specs.Prelude.{ℕ, ◌≡◌, ◌⊎◌, ◌<◌, ◌≤◌, ◌-◌, length, take, IfSome, Option, Some, None}
use Rattle.promql_text.specs.Texts.{Text}
use Rattle.promql_token.specs.declared.fault.LexFaultKind.{LexFaultKind}
use Rattle.promql_token.specs.declared.fault.LexFaultKind.TheVariants.{UnclosedParen}
use Rattle.promql_span.specs.CharSpans.{IsCharAt}
use Rattle.promql_span.specs.PlacedTokens.{IsAtMisfit, end_of, last_tokens, placed_tokens}
use Rattle.promql_span.specs.TokenSpans.{IsAtTokens, span_over}
use Rattle.promql_span.specs.declared.span.Span.{Span}
use Rattle.promql_syntax.specs.declared.parser.ParseError.{ParseError}
use Rattle.promql_syntax.specs.declared.parser.ParseError.TheVariants as errors
use Rattle.promql_grammar.specs.Grammar.{Derivation}
use Rattle.promql_syntax.specs.BuildErrors.{BuildError}
use Rattle.promql_syntax.specs.FaultTokens.{IsFirstFault, Subexpression, fault_tokens, subexpressions}
use Rattle.promql_syntax.specs.ParseAnswers.{Derives, fault, plain_error_of}

-- a parenthesis that is not closed shows at a token, or at the end; any other fault at its character, or at the end
abbrev pub IsAtFault : Text → ℕ → LexFaultKind → Span → Type 0
IsAtFault s at UnclosedParen span = IsAtTokens s span ⊎ (span ≡ end_of s)
IsAtFault s at kind span = (at < length s → IsCharAt s at span) × (length s ≤ at → span ≡ end_of s)

-- a fault of building is that of the first expression in the text's derivation that does not build, and where it is told which of its
-- tokens that is about, from the one on with which `left.0` are left, up to where `left.1` are, the span is that of these
abbrev pub IsAtBuildFault : Text → BuildError → Span → Type 0
IsAtBuildFault s e span =
    (d : Derivation) × Derives s d × (sub : Subexpression) × IsFirstFault e (subexpressions 0 d) sub
    × IfSome (fault_tokens e sub.0 sub.1) (λ left. left.1 < left.0 → span ≡ span_over s (take (left.0 - left.1) (last_tokens left.0 (placed_tokens s))))

-- tokens in a row, and of a fault of building its own where it is told which
abbrev pub IsAtError : Text → ParseError → Span → Type 0
IsAtError s e span = IsAtTokens s span × ((f : BuildError) → plain_error_of e ≡ fault f → IsAtBuildFault s f span)

abbrev pub IsPlaceOf : Text → ParseError → Option Span → Type 0
IsPlaceOf s errors.Memory found = found ≡ None
IsPlaceOf s e None = ⊥
IsPlaceOf s (errors.Lex f) (Some span) = IsAtFault s f.at f.kind span
IsPlaceOf s errors.Empty (Some span) = span ≡ end_of s
IsPlaceOf s errors.Syntax (Some span) = IsAtMisfit s span
IsPlaceOf s e (Some span) = IsAtError s e span
