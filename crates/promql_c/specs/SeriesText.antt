-- The labels of a series as JSON, and whether a tree may read it (docs/guide/bindings.md, "Series that a query may read").
use Rattle.std.specs.Prelude.{◌≡◌, if◌then◌else◌, [], bytes_eq, Option, Some, None, is_none, option_and_then, option_map}
use Rattle.serde_json.specs.Data.{Data, boolean, Members, no_members, member}
use Rattle.serde_json.specs.Find.{as_object, as_str}
use Rattle.serde_json.specs.Read.{read}
use Rattle.serde_json.specs.Written.{compact_text}
use Rattle.promql_text.specs.Texts.{Text}
use Rattle.promql_ast.specs.Tree.{Tree}
use Rattle.promql_rewrite.specs.Selecting.{Series}
use Rattle.promql_when.specs.MayRead.{may_read}
use Rattle.promql_query.specs.declared.labels_fault.LabelsFault.{LabelsFault}
use Rattle.promql_query.specs.declared.labels_fault.LabelsFault.TheVariants as fault
use Rattle.promql_query.specs.declared.query_error.QueryError.{QueryError}
use Rattle.promql_query.specs.declared.query_error.QueryError.TheVariants as error

-- the series with this label, too
abbrev pub with_label : Text → Text → Series → Series
with_label name value series asked = if bytes_eq name asked then value else series asked

-- the series whose labels the members are, where all are texts
abbrev pub series_of_members : Members → Option Series
series_of_members no_members = Some (λ asked. [])
series_of_members (member name d ms) = option_and_then (λ value. option_map (with_label name value) (series_of_members ms)) (as_str d)

abbrev pub series_in : Data → Option Series
series_in d = option_and_then series_of_members (as_object d)

-- the series of a text. An object that is read has each name once, with what the text has last at it
abbrev pub series_read : Text → Option Series
series_read labels = option_and_then series_in (read labels)

abbrev pub labels_fault : Text → LabelsFault
labels_fault labels = if is_none (read labels) then fault.NotJson else fault.NotTexts

-- whether the tree may read the series with these labels
abbrev pub IsMayReadText : Text → Tree → Text → Type 0
IsMayReadText labels t text = (series : Series) × (series_read labels ≡ Some series) × (text ≡ compact_text (boolean (may_read series t)))

-- the text is not the labels of a series, and the error says why
abbrev pub AreNoLabels : Text → QueryError → Type 0
AreNoLabels labels e = (series_read labels ≡ None) × (e ≡ error.NotLabels (labels_fault labels))
