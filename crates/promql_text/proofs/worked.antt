-- Worked texts, a file a topic.
pub mod Ends
pub mod Examples
pub mod WorkedTexts
