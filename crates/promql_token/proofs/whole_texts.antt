-- The tokens of any text, a file a topic.
pub mod Boundaries
pub mod CommentSteps
pub mod TextTokens
pub mod TokenLengths
