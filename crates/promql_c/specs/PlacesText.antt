-- The text of the places of a tree's nodes (docs/guide/bindings.md, "Places of nodes").
use Rattle.std.specs.Prelude.{◌≡◌, List, [], ◌∷◌, map}
use Rattle.serde_json.specs.Data.{Data, number, unsigned}
use Rattle.serde_json.specs.Written.{compact_text}
use Rattle.promql_text.specs.Texts.{Text}
use Rattle.promql_ast.specs.Tree.{Tree}
use Rattle.promql_json.specs.JsonParts.{list}
use Rattle.promql_places.specs.NodePlaces.{AreOfNodes, place_of}
use Rattle.promql_span.specs.declared.span.Span.{Span}

-- the numbers of the bytes from and up to which it goes
abbrev pub span_value : Span → Data
span_value span = list (number (unsigned span.start) ∷ number (unsigned span.end) ∷ [])

-- the places of the nodes of the query's tree, in the order of a walk
abbrev pub IsPlacesText : Text → Tree → Text → Type 0
IsPlacesText query t text = (places : List Span) × AreOfNodes (place_of query) query t places × (text ≡ compact_text (list (map span_value places)))
