-- The line of a changed tree (docs/guide/rewriting.md, "Faithful texts"; docs/reference/programs.md, "Limits of a query").
use Rattle.std.specs.Prelude.{◌≡◌, ◌≢◌, Result, Ok, Err}
use Rattle.promql_text.specs.Texts.{Text}
use Rattle.promql_ast.specs.Text.{text as line_text}
use Rattle.promql_ast.specs.Tree.{Tree}
use Rattle.promql_syntax.specs.ParseAnswers.{IsAnswerTo, plain_error_of}
use Rattle.promql_syntax.specs.declared.parser.ParseError.TheVariants as parse
use Rattle.promql_rewrite.specs.Faithful.{IsLineOf, MeansOther}
use Rattle.promql_rewrite.specs.declared.faithful.NotFaithful.TheVariants as faithful
use Rattle.promql_span.specs.QueryLimits.{IsWithin}
use Rattle.promql_span.specs.declared.limits.Limits.{Limits}
use Rattle.promql_query.specs.QueryErrors.{IsOver}
use Rattle.promql_query.specs.declared.query_error.Measured.{Measured}
use Rattle.promql_query.specs.declared.query_error.QueryError.{QueryError}
use Rattle.promql_query.specs.declared.query_error.QueryError.TheVariants as error

-- the line of the tree, which is within the limits and means it; or it is not within them; or it is, and is rejected, or means another tree
abbrev pub HasLine : Measured → Limits → Tree → Result Text QueryError → Type 0
HasLine line limits u (Ok s) = IsWithin s limits × IsLineOf u s
HasLine line limits u (Err (error.Large measured fault)) = (measured ≡ line) × IsOver limits (line_text u) fault
HasLine line limits u (Err (error.Unfaithful (faithful.Rejected e))) =
    IsWithin (line_text u) limits × IsAnswerTo (line_text u) (Err (plain_error_of e)) × (e ≢ parse.Memory)
HasLine line limits u (Err (error.Unfaithful faithful.OtherTree)) = IsWithin (line_text u) limits × MeansOther (line_text u) u
HasLine line limits u (Err e) = e ≡ error.Memory
