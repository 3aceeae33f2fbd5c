-- What a derivation builds, a file a topic.
pub mod Asked
pub mod AskedPatterns
pub mod BuiltForms
pub mod BuiltTyped
pub mod Ending
pub mod MatcherBuilding
pub mod MoreArguments
pub mod SingleAnswers
pub mod SmallAnswers
pub mod SuchPatterns
