-- The events of a walk (docs/reference/walks.md, "Order").
use Rattle.std.specs.Prelude.{List, [], ◌∷◌, ◌++◌}
use Rattle.promql_ast.specs.Fold.{folded, within, maybe_within, all_within}
use Rattle.promql_ast.specs.Tree.{Tree, MaybeTree, Trees}

pub data Event : Type 0 where
  before after : Tree → Event

-- before a node, what its children give, after it
abbrev pub around : Tree → List Event → List Event
around t inner = before t ∷ (inner ++ after t ∷ [])

-- "Order": before the node, the events of its children, after it
abbrev pub events : Tree → List Event
events = folded [] ◌++◌ around

-- ---- Private: the events of a node's children, in their order, and of lists of nodes. No contract of a public function speaks of them.

abbrev pub inner_events : Tree → List Event
inner_events = within [] ◌++◌ around

abbrev pub param_events : MaybeTree → List Event
param_events = maybe_within [] ◌++◌ around

abbrev pub all_events : Trees → List Event
all_events = all_within [] ◌++◌ around
