-- What `regex` may answer about a pattern, a file a topic.
pub mod EmptyText
pub mod EscapedPlaces
pub mod Escaping
pub mod Finding
pub mod Reading
pub mod SmallPatterns
