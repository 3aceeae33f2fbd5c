-- How the parser reads, a file a topic.
pub mod AtomBases
pub mod Bases
pub mod BlankModifiers
pub mod Booleans
pub mod Climbing
pub mod Collecting
pub mod CountedTokens
pub mod FirstTokens
pub mod LabelLists
pub mod MatcherLists
pub mod ModifierReading
pub mod PartSteps
pub mod Postfixing
pub mod ReadErrorSteps
pub mod ResultSteps
pub mod TokenFaults
pub mod TokenKindRows
