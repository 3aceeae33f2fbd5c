-- Numbers and strings as tokens, a file a topic.
pub mod NumberParts
pub mod Numerals
pub mod PlainStrings
pub mod Strings
