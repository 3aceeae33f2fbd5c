pub mod AnswerIds
pub mod Batches
pub mod EnforcedTrees
pub mod FiniteWindows
pub mod JsonTexts
pub mod LimitStatus
pub mod LineAnswers
pub mod LinesRead
pub mod MemoryAnswer
pub mod PlacedWindows
mod Renamings
pub mod QueryStatuses
pub mod RequestIds
pub mod RequestMembers
pub mod SelectorWalks
pub mod Steps
pub mod TreeMeans
mod WarnedAnswers
