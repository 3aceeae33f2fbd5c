pub mod EscapeSteps
pub mod DifferenceRows
pub mod FoundKinds
pub mod Covered
pub mod LineParts
pub mod Naming
pub mod Respelling
pub mod GoingOn
pub mod OrderedTokens
pub mod PlacedTexts
pub mod TakenTokens
pub mod TokenMeasures
pub mod TokenRows
pub mod ErrorPlacing
pub mod Columns
pub mod VisibleTexts
mod TokenRanges
mod LaterTokens
mod OperatorTokens
mod TextMarks
mod TokensWithout
mod WithoutEscapes
mod WithoutMarks
mod WithoutTilde
mod WordIds
mod ZeroNumbers
