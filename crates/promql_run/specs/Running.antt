-- What a run does (docs/reference/programs.md, "A run").
use Rattle.std.specs.Prelude.{◌≡◌, ◌≢◌, ℕ, ◌++◌, [], ◌∷◌, Option, Some, None, Result, Ok, Err, bytes_eq, codes}
use Rattle.std.specs.Map.{lookup}
use Rattle.promql_syntax.specs.declared.parser.ParseError.TheVariants as parse_errors
use Rattle.promql_text.specs.Texts.{Text}
use Rattle.promql_grammar.specs.Results.{on_result}
use Rattle.promql_ast.specs.Layout.{layout_of}
use Rattle.promql_ast.specs.Text as one_line
use Rattle.promql_ast.specs.Tree.{Tree}
use Rattle.promql_syntax.specs.ParseAnswers.{IsAnswerTo, PlainParseError, plain_error_of}
use Rattle.promql_json.specs.Json.{json}
use Rattle.promql_json.specs.declared.error.JsonError.{JsonError}
use Rattle.promql_json.specs.declared.error.JsonError.TheVariants.{NumberTooWide}
use Rattle.serde_json.specs.Written.{compact_text}
use Rattle.promql_run.specs.declared.format.Format.{Format}
use Rattle.promql_run.specs.declared.format.Format.TheVariants.{Pretty, Line, Json}
use Rattle.promql_run.specs.declared.run.RunError.{RunError}
use Rattle.promql_run.specs.declared.run.RunError.TheVariants as error

-- "Modes": the format of a mode
abbrev pub format_named : Text → Option Format
format_named name =
    lookup (bytes_eq name) ((codes "pretty", Pretty (record { level = 0; width = 100 })) ∷ (codes "line", Line) ∷ (codes "json", Json) ∷ [])

-- the text of a tree in a format, or why it has none
abbrev pub format_text : Format → Tree → Result Text JsonError
format_text (Pretty layout) t = Ok (layout_of t layout.level layout.width)
format_text Line t = Ok (one_line.text t)
format_text Json t = on_result compact_text (json t)

abbrev pub error_number : RunError → ℕ
error_number error.Memory = 1
error_number error.Read = 2
error_number error.NotUtf8 = 3
error_number (error.Parse e) = 4
error_number error.Write = 5
error_number error.Json = 6

-- the text has a tree, and this is the text of that in the format, or why it has none
abbrev pub HasFormatText : Format → Text → Result Text JsonError → Type 0
HasFormatText format text made = (t : Tree) × IsAnswerTo text (Ok t) × (format_text format t ≡ made)

-- "A run": the text of its tree, and a line feed
abbrev pub IsPrinted : Format → Text → Text → Type 0
IsPrinted format text printed = (body : Text) × HasFormatText format text (Ok body) × (printed ≡ body ++ 10 ∷ [])

-- why a text has no answer: the parser rejects it, or a number of its tree is too wide
abbrev pub FailsToPrint : Format → RunError → Text → Type 0
FailsToPrint format (error.Parse e) text = IsAnswerTo text (Err (plain_error_of e)) × (e ≢ parse_errors.Memory)
FailsToPrint format error.Json text = HasFormatText format text (Err NumberTooWide)
FailsToPrint format _ text = ⊥

-- the number of an error, and the parser's error as plain data
abbrev pub failure_of : RunError → ℕ × Option PlainParseError
failure_of (error.Parse e) = (4, Some (plain_error_of e))
failure_of e = (error_number e, None)
