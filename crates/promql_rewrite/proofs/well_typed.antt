-- Well typed trees, node by node, a file a topic.
pub mod PassingNodes
pub mod TypedChecks
pub mod TypedNodes
