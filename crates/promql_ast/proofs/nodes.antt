-- Nodes and lists of them, as they are seen, a file a topic.
pub mod ArgumentLists
pub mod Args
pub mod ChangedLists
pub mod ExpressionLists
pub mod LastArguments
pub mod Leaves
pub mod NodeParts
pub mod NodesPrinted
