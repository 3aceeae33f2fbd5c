pub mod Changes
pub mod ChangedChildren
pub mod Children
pub mod PlainMembers
pub mod WalkSteps
