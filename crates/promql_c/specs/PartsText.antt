-- The text of the parts of a tree's nodes (docs/guide/bindings.md, "Parts of nodes").
use Rattle.std.specs.Prelude.{◌≡◌, List, [], ◌∷◌, codes, map}
use Rattle.serde_json.specs.Data.{Data, number, string, unsigned}
use Rattle.serde_json.specs.Written.{compact_text}
use Rattle.promql_text.specs.Texts.{Text}
use Rattle.promql_ast.specs.Tree.{Tree}
use Rattle.promql_json.specs.JsonParts.{list}
use Rattle.promql_places.specs.NodeParts.{parts_of}
use Rattle.promql_places.specs.NodePlaces.{AreOfNodes}
use Rattle.promql_places.specs.declared.parts.Part.{Part}
use Rattle.promql_places.specs.declared.parts.PartKind.{PartKind}
use Rattle.promql_places.specs.declared.parts.PartKind.TheVariants as kind

abbrev pub part_name : PartKind → Text
part_name kind.Name = codes "name"
part_name kind.Operator = codes "operator"
part_name kind.Selector = codes "selector"
part_name kind.Matcher = codes "matcher"
part_name kind.Label = codes "label"
part_name kind.GroupLabel = codes "groupLabel"
part_name kind.Range = codes "range"
part_name kind.Offset = codes "offset"
part_name kind.At = codes "at"
part_name kind.Mode = codes "mode"

-- its kind, and the numbers of the bytes from and up to which it goes
abbrev pub part_value : Part → Data
part_value p = list (string (part_name p.kind) ∷ number (unsigned p.span.start) ∷ number (unsigned p.span.end) ∷ [])

abbrev pub parts_value : List Part → Data
parts_value ps = list (map part_value ps)

-- the parts of the nodes of the query's tree, in the order of a walk
abbrev pub IsPartsText : Text → Tree → Text → Type 0
IsPartsText query t text = (lists : List (List Part)) × AreOfNodes (parts_of query) query t lists × (text ≡ compact_text (list (map parts_value lists)))
