-- Checks of nodes and of their parts, a file a topic.
pub mod ArgCounts
pub mod BelowRoots
pub mod CheckedTyped
pub mod Fallbacks
pub mod FirstFaults
pub mod GivenTimes
pub mod Typing
