-- What is printed is read again, a file a topic.
pub mod Canonical
pub mod CanonicalNodes
pub mod CanonicalTexts
pub mod CanonicalTrees
pub mod CheckedAgain
pub mod Derive
pub mod Printable
pub mod ServedTrees
pub mod SpelledWords
pub mod UnsignedNumbers
