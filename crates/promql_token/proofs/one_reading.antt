-- The one way to read a text as tokens, a file a topic.
pub mod Boundaries
pub mod CutSteps
pub mod Ends
pub mod Inner
pub mod Items
pub mod OneReading
pub mod Places
pub mod Spans
pub mod SpansToFault
pub mod Steps
pub mod UniqueTokens
