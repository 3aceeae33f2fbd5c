-- Texts that are written, a file a topic.
pub mod AllOptions
pub mod Joins
pub mod PrintedLengths
pub mod Writing
