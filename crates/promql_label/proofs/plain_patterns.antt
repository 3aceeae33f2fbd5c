-- The grammar of `regex` reads plain patterns, a file a topic.
pub mod PlainAtoms
pub mod PlainClasses
pub mod PlainCounts
pub mod PlainPatternsRead
pub mod PlainRepetitions
pub mod PlainScans
