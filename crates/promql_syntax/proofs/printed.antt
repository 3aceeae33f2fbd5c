-- What is printed, part by part, a file a topic.
pub mod PrintedBytes
pub mod PrintedExprTokens
pub mod PrintedItems
pub mod PrintedLayouts
pub mod PrintedLines
pub mod PrintedMatcherLists
pub mod PrintedModifiers
pub mod PrintedParts
pub mod PrintedTimes
pub mod PrintedTimesAndLabels
pub mod PrintedWords
