-- Private: names for parts of the form of a tree. No contract of a public function speaks of them.
use Rattle.std.specs.Prelude.{ℕ, List, [], Bool, false, not, Option, option_and_then, Result, Ok, Err}
use Rattle.std.specs.Option.{option_map_or}
use Rattle.serde_json.specs.Data.{Data, string as text, Members}
use Rattle.promql_text.specs.Texts.{Text}
use Rattle.promql_token.specs.Ids.{text_of}
use Rattle.promql_label.specs.PlainMatchers.{Operator, operator_text}
use Rattle.promql_kind.specs.Modifiers.{Clause, clause_labels, is_including}
use Rattle.promql_kind.specs.ValueTypes.{type_text}
use Rattle.promql_kind.specs.declared.value.ValueType.{ValueType}
use Rattle.promql_ast.specs.Selectors.{Selector, selector}
use Rattle.promql_ast.specs.Tree.{Tree}
use Rattle.promql_json.specs.declared.error.JsonError.{JsonError}
use Rattle.promql_json.specs.Json.{node_parts, width_fault}
use Rattle.promql_json.specs.JsonParts.{millis, shift_millis}

-- ---- values

abbrev pub token_json : ℕ → Data
token_json id = text (text_of id)

abbrev pub operator_json : Operator → Data
operator_json op = text (operator_text op)

abbrev pub type_json : ValueType → Data
type_json t = text (type_text t)

abbrev pub optional_labels : Option Clause → List Text
optional_labels m = option_map_or clause_labels m []

abbrev pub is_excluding : Option Clause → Bool
is_excluding m = option_map_or (λ c. not (is_including c)) m false

-- ---- nodes

abbrev pub type_name : Tree → Text
type_name t = (node_parts t).0

abbrev pub node_members : Tree → Members
node_members t = (node_parts t).1

-- ---- faults

abbrev pub step_fault : Option ℕ → Option JsonError
step_fault step = option_and_then (λ n. width_fault (millis n)) step

abbrev pub selector_fault : Selector → Option JsonError
selector_fault (selector name ms offset at) = width_fault (shift_millis offset)

-- the value, or the fault in its place
abbrev pub unless : Option JsonError → Data → Result Data JsonError
unless fault d = option_map_or Err fault (Ok d)
