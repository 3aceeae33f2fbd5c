-- The text of what a tree names (docs/guide/bindings.md, "What a query names").
use Rattle.std.specs.Prelude.{◌≡◌, List}
use Rattle.serde_json.specs.Written.{compact_text}
use Rattle.promql_text.specs.Texts.{Text}
use Rattle.promql_ast.specs.Tree.{Tree}
use Rattle.promql_rewrite.specs.Collecting.{IsSetOf, from_nodes, own_functions, own_labels, own_metrics, own_selectors}
use Rattle.promql_c.specs.CollectedJson.{collected_value}

-- the functions, labels and metrics of the tree, each once and in byte order, and its selectors, in the order of the text
abbrev pub IsCollectedText : Tree → Text → Type 0
IsCollectedText t text =
    (functions : List Text) × (labels : List Text) × (metrics : List Text)
    × IsSetOf (from_nodes own_functions t) functions × IsSetOf (from_nodes own_labels t) labels × IsSetOf (from_nodes own_metrics t) metrics
    × (text ≡ compact_text (collected_value functions labels metrics (from_nodes own_selectors t)))
