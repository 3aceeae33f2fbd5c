-- What is printed is read again, a file a topic.
pub mod MatcherTokens
pub mod MatchersReadBack
pub mod PrintedMatchers
pub mod PrintedTokens
pub mod ReadLabels
pub mod WorkedMatchers
