-- The members of a node's object that hold no nodes (docs/reference/json.md, "Nodes"). Private: nothing rests on believing it.
use Rattle.std.specs.Prelude.{[], ◌∷◌, codes}
use Rattle.serde_json.specs.Data.{boolean, string as text, Members, no_members, put}
use Rattle.promql_ast.specs.OptionalModifiers.{returns_bool}
use Rattle.promql_ast.specs.Tree.{Tree, aggregate, unary, binary, paren, subquery, call}
use Rattle.promql_json.specs.FormNames.{is_excluding, node_members, optional_labels, token_json, type_name}
use Rattle.promql_json.specs.JsonParts.{members, or_null, whole, labels_json, matching_json, millis, shift_millis, start_or_end, timestamp, function_json}

-- without `type`
abbrev pub plain_members : Tree → Members
plain_members (aggregate op e p m) = members (
    (codes "op", token_json op)
    ∷ (codes "grouping", labels_json (optional_labels m))
    ∷ (codes "without", boolean (is_excluding m))
    ∷ [])
plain_members (unary e) = members ((codes "op", text (codes "-")) ∷ [])
plain_members (binary op l r m) = members (
    (codes "op", token_json op)
    ∷ (codes "bool", boolean (returns_bool m))
    ∷ (codes "matching", or_null matching_json m)
    ∷ [])
plain_members (paren e) = no_members
plain_members (subquery e offset at range step) = members (
    (codes "offset", whole (shift_millis offset))
    ∷ (codes "startOrEnd", start_or_end at)
    ∷ (codes "timestamp", timestamp at)
    ∷ (codes "range", whole (millis range))
    ∷ (codes "step", or_null (λ n. whole (millis n)) step)
    ∷ [])
plain_members (call f args) = members ((codes "func", function_json f) ∷ [])
plain_members t = node_members t

abbrev pub typed_members : Tree → Members
typed_members t = put (codes "type") (text (type_name t)) (plain_members t)
