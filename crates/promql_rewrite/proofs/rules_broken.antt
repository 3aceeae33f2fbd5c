-- Which rule a tree breaks, a file a topic.
pub mod EachNode
pub mod ListedNodes
pub mod NegatedOperands
pub mod NodeParts
pub mod NodeReasons
pub mod ReasonsFound
pub mod Rejections
