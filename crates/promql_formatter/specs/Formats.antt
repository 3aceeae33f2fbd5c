-- Formatted texts (docs/reference/formatting.md, "What is promised").
use Rattle.std.specs.Prelude.{◌≡◌, ◌≢◌, ◌≤◌, Bool, true, false, length, Ok, Err}
use Rattle.promql_text.specs.Texts.{Text}
use Rattle.promql_ast.specs.Normal.{normal}
use Rattle.promql_ast.specs.Tree.{Tree}
use Rattle.promql_span.specs.ErrorPlaces.{IsPlaceOf}
use Rattle.promql_span.specs.declared.diagnosis.Diagnosis.{Diagnosis}
use Rattle.promql_syntax.specs.ParseAnswers.{IsAnswerTo, memory, plain_error_of}
use Rattle.promql_formatter.specs.Comments.{comment_lines}
use Rattle.promql_formatter.specs.Options.{AreWithin}
use Rattle.promql_formatter.specs.declared.options.FormatOptions.{FormatOptions}

-- where the spelling is kept, the tree stays as it is; else its normal form does
abbrev pub IsKept : Bool → Tree → Tree → Type 0
IsKept true t read = read ≡ t
IsKept false t read = normal read ≡ normal t

-- both texts are queries, of one tree, and have the same comments
abbrev pub IsFormatOf : Bool → Text → Text → Type 0
IsFormatOf keep_spelling text out =
    (t read : Tree) × IsAnswerTo text (Ok t) × IsAnswerTo out (Ok read)
    × IsKept keep_spelling t read × (comment_lines out ≡ comment_lines text)

-- a layout of a query that is as the options ask for it
abbrev pub IsLayoutOf : FormatOptions → Text → Text → Type 0
IsLayoutOf options text out = AreWithin options × (length out ≤ options.max_output) × IsFormatOf options.keep_spelling text out

-- the text is accepted
abbrev pub IsQuery : Text → Type 0
IsQuery text = (t : Tree) × IsAnswerTo text (Ok t)

-- the text is rejected, for this reason and at this place
pub record IsRejected (text : Text) (d : Diagnosis) : Type 0 where
  pub answer : IsAnswerTo text (Err (plain_error_of d.error))
  pub own : plain_error_of d.error ≢ memory
  pub place : IsPlaceOf text d.error d.span
