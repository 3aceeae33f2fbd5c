-- Tokens drawn from a cursor, a file a topic.
pub mod CursorTokens
pub mod FrontTokens
pub mod SameTokens
pub mod TestsAndCounts
pub mod WorkedTokens
