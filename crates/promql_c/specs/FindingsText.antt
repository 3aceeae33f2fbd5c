-- The text of what a target reads otherwise of a query, or rejects (docs/guide/bindings.md, "Differences").
use Rattle.std.specs.Prelude.{◌≡◌, List, [], ◌∷◌, map}
use Rattle.serde_json.specs.Data.{Data, number, string, unsigned}
use Rattle.serde_json.specs.Written.{compact_text}
use Rattle.promql_text.specs.Texts.{Text}
use Rattle.promql_json.specs.JsonParts.{list}
use Rattle.promql_query.specs.Rejecting.{findings, reason_number}
use Rattle.promql_query.specs.declared.findings.Finding.{Finding}
use Rattle.promql_span.specs.declared.limits.Limits.{Limits}

-- the number of the error, where the part begins and ends, and the message
abbrev pub row_value : Finding × Text → Data
row_value (f, message) =
    list (number (unsigned (reason_number f.reason)) ∷ number (unsigned f.span.start) ∷ number (unsigned f.span.end) ∷ string message ∷ [])

-- each with a message
abbrev pub IsFindingsText : Limits → Text → Text → Type 0
IsFindingsText limits query text =
    (rows : List (Finding × Text)) × (map (λ row. row.0) rows ≡ findings limits query) × (text ≡ compact_text (list (map row_value rows)))
