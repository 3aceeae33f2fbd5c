-- The text of a tree that is given as JSON (docs/reference/json.md, "From JSON to a text").
use Rattle.std.specs.Prelude.{◌≡◌, ◌≢◌, ◌<◌, ◌≤◌, ℕ, Bool, if◌then◌else◌, length, Some, None, Result, Ok, Err, string_bytes}
use Rattle.serde_json.specs.Data.{Data}
use Rattle.serde_json.specs.Read.{read}
use Rattle.promql_text.specs.Texts.{Text}
use Rattle.promql_span.specs.QueryLimits.{IsWithin}
use Rattle.promql_span.specs.declared.limits.Limits.{Limits}
use Rattle.promql_ast.specs.Text.{text as line_text}
use Rattle.promql_ast.specs.Tree.{Tree}
use Rattle.promql_json.specs.Json.{json}
use Rattle.promql_from_json.specs.FormFaults.{node}
use Rattle.promql_from_json.specs.FormMeasure.{patterns_size}
use Rattle.promql_from_json.specs.Readable.{IsNoForm}
use Rattle.promql_from_json.specs.declared.from_error.FromJsonError.TheVariants as from
use Rattle.promql_rewrite.specs.Faithful.{IsLineOf, Means}
use Rattle.promql_rewrite.specs.Parenthesizing.{parenthesized}
use Rattle.promql_rewrite.specs.Reasons.{IsReason}
use Rattle.promql_run.specs.Running.{format_text}
use Rattle.promql_query.specs.QueryErrors.{IsOver, Then}
use Rattle.promql_run.specs.declared.format.Format.{Format}
use Rattle.promql_run.specs.declared.format.Format.TheVariants as format
use Rattle.promql_query.specs.declared.read_form.LargeForm.{LargeForm}
use Rattle.promql_query.specs.declared.read_form.LargeForm.TheVariants.{TooLong, PatternsTooLarge}
use Rattle.promql_query.specs.declared.query_error.QueryError.{QueryError}
use Rattle.promql_query.specs.declared.query_error.QueryError.TheVariants as error

-- the text is no longer than a form may be, and is JSON of this value, with patterns that are no larger than those of a query
abbrev pub IsFormWithin : Limits → ℕ → Text → Data → Type 0
IsFormWithin limits max_tree form d = (length form ≤ max_tree) × (read form ≡ Some d) × (patterns_size d ≤ limits.max_pattern_size)

-- it is longer; or it is not, and its patterns are larger
abbrev pub IsLargeForm : Limits → ℕ → Text → LargeForm → Type 0
IsLargeForm limits max_tree form (TooLong len most) = (len ≡ length form) × (most ≡ max_tree) × (most < len)
IsLargeForm limits max_tree form (PatternsTooLarge size most) =
    (length form ≤ max_tree) × ((d : Data) × (read form ≡ Some d) × (size ≡ patterns_size d)) × (most ≡ limits.max_pattern_size) × (most < size)

-- the tree of this form; or it is that of no readable tree, with a place that is not what a form has
abbrev pub ReadsValue : Data → Result Tree QueryError → Type 0
ReadsValue d (Ok t) = json t ≡ Ok d
ReadsValue d (Err (error.NotATree (from.Misfit m))) = IsNoForm d × node 512 (Some d) (string_bytes m.path) m.expected
ReadsValue d (Err e) = e ≡ error.Memory

-- the tree whose form the text is; else the text is too large, no JSON, or JSON that is the form of no readable tree
abbrev pub ReadsForm : Limits → ℕ → Text → Result Tree QueryError → Type 0
ReadsForm limits max_tree form (Err (error.LargeForm fault)) = IsLargeForm limits max_tree form fault
ReadsForm limits max_tree form (Err (error.NotATree from.NotJson)) = (length form ≤ max_tree) × (read form ≡ None)
ReadsForm limits max_tree form (Err error.Memory) = Unit {0}
ReadsForm limits max_tree form r = (d : Data) × IsFormWithin limits max_tree form d × ReadsValue d r

-- the line of the tree is within the limits, and means the tree
abbrev pub HasLineWithin : Limits → Tree → Type 0
HasLineWithin limits t = IsWithin (line_text t) limits × IsLineOf t (line_text t)

-- the text in a format of a tree that has such a line, which means the tree, if it is no form; or the line is not within the limits; or it
-- is, and this is why it does not mean the tree; or the tree has such a line, and no layout that means it, or no form
abbrev pub PrintsTree : Limits → Format → Tree → Result Text QueryError → Type 0
PrintsTree limits f t (Ok s) = HasLineWithin limits t × (format_text f t ≡ Ok s) × (f ≢ format.Json → Means s t)
PrintsTree limits f t (Err (error.LargeTree fault)) = IsOver limits (line_text t) fault
PrintsTree limits f t (Err (error.NotPrintable reason)) = IsWithin (line_text t) limits × IsReason reason t
PrintsTree limits f t (Err (error.Unfaithful e)) = HasLineWithin limits t
PrintsTree limits f t (Err (error.NoForm e)) = HasLineWithin limits t × (json t ≡ Err e)
PrintsTree limits f t (Err e) = e ≡ error.Memory

-- the text of the tree whose form is given, or of that with parentheses where it needs them
abbrev pub PrintsForm : Limits → ℕ → Format → Bool → Text → Result Text QueryError → Type 0
PrintsForm limits max_tree f parens form = Then (ReadsForm limits max_tree form) (λ t. PrintsTree limits f (if parens then parenthesized t else t))
