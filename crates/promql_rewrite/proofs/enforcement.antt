-- A matcher in every selector, a file a topic.
pub mod BareCalls
pub mod EnforcedChecks
pub mod EnforcedLengths
pub mod EnforcedLists
pub mod EnforcedMatchers
pub mod EnforcedSelectors
pub mod EnforcedTexts
pub mod EnforcedTrees
pub mod EnforcedTwice
pub mod EnforcedTypes
pub mod PlainQueries
pub mod SameMatchers
pub mod SecondMatchers
