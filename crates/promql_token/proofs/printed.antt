-- What is printed, part by part, a file a topic.
pub mod Concatenation
pub mod DurationTokens
pub mod InLongerTexts
pub mod LaterDurationParts
pub mod PrintedForms
pub mod SpelledTokens
pub mod ValueTokens
