-- What a query names, as JSON (docs/guide/bindings.md, "What a query names").
use Rattle.std.specs.Prelude.{List, codes, map}
use Rattle.serde_json.specs.Data.{Data, string, object, no_members, member}
use Rattle.promql_text.specs.DurationText.{duration_text}
use Rattle.promql_text.specs.Texts.{Text}
use Rattle.promql_ast.specs.Shifts.{shift_text, moment_text}
use Rattle.promql_json.specs.JsonParts.{list, or_null}
use Rattle.promql_query.specs.Batch.{texts}
use Rattle.promql_rewrite.specs.Collecting.{Selection, selected}

-- the times as they print
abbrev pub selector_value : Selection → Data
selector_value (selected name matchers range offset at) =
    object (member (codes "at") (or_null (λ m. string (moment_text m)) at)
    (member (codes "matchers") (string matchers)
    (member (codes "name") (or_null string name)
    (member (codes "offset") (or_null (λ s. string (shift_text s)) offset)
    (member (codes "range") (or_null (λ n. string (duration_text n)) range) no_members)))))

abbrev pub collected_value : List Text → List Text → List Text → List Selection → Data
collected_value functions labels metrics found =
    object (member (codes "functions") (texts functions)
    (member (codes "labels") (texts labels)
    (member (codes "metrics") (texts metrics)
    (member (codes "selectors") (list (map selector_value found)) no_members))))
