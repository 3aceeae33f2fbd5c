-- The line of a query with another name for a metric or a label (docs/guide/rewriting.md, "Renaming").
use Rattle.std.specs.Prelude.{◌≡◌, ◌<◌, ◌≤◌, ◌⊎◌, ◌||◌, if◌then◌else◌, length, Option, Some, None, Result}
use Rattle.promql_text.specs.Texts.{Text}
use Rattle.promql_ast.specs.Tree.{Tree}
use Rattle.promql_rewrite.specs.Renaming.{Renaming, of_label, of_metric, clashes, is_metric_label, is_name, renamed}
use Rattle.promql_span.specs.declared.limits.LimitFault.TheVariants as limit
use Rattle.promql_span.specs.declared.limits.Limits.{Limits}
use Rattle.promql_query.specs.LinesWithin.{HasLine}
use Rattle.promql_query.specs.QueryErrors.{Gives, OfTree, Then}
use Rattle.promql_query.specs.declared.renamed_line.TheConstants.{MAX_NEW_NAME}
use Rattle.promql_query.specs.declared.renamed_line.Named.{Named}
use Rattle.promql_query.specs.declared.renamed_line.Named.TheVariants as named
use Rattle.promql_query.specs.declared.query_error.Measured.TheVariants as measured
use Rattle.promql_query.specs.declared.query_error.QueryError.{QueryError}
use Rattle.promql_query.specs.declared.query_error.QueryError.TheVariants as error

abbrev pub renaming : Named → Text → Text → Renaming
renaming named.Metric from to = of_metric from to
renaming named.Label from to = of_label from to

-- why the new name may not stand for the old one in the tree, if it may not
abbrev pub rename_fault : Renaming → Tree → Option QueryError
rename_fault (of_metric from to) t = if is_name to then None else Some error.NotAName
rename_fault (of_label from to) t =
    if is_metric_label from || is_metric_label to then Some error.MetricName else if clashes from to t then Some error.Clash else None

abbrev pub new_name : Renaming → Text
new_name (of_metric from to) = to
new_name (of_label from to) = to

-- the tree with the new name, where that is short and may stand for the old one
abbrev pub Renames : Renaming → Tree → Result Tree QueryError → Type 0
Renames r t = Gives
    (λ u. (length (new_name r) ≤ MAX_NEW_NAME) × (rename_fault r t ≡ None) × (u ≡ renamed r t))
    (λ e. ((MAX_NEW_NAME < length (new_name r)) × (e ≡ error.Large measured.NewName (limit.TooLong (length (new_name r)) MAX_NEW_NAME)))
    ⊎ ((length (new_name r) ≤ MAX_NEW_NAME) × (rename_fault r t ≡ Some e)))

-- the line of a query's tree with the new name; the names count only where the query has a tree
abbrev pub IsRenamedLine : Limits → Text → Renaming → Result Text QueryError → Type 0
IsRenamedLine limits query r = OfTree limits query (λ t. Then (Renames r t) (HasLine measured.RenamedLine limits))
