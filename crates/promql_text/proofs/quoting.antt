-- Quoted texts, a file a topic.
pub mod Escapes
pub mod PlainQuotes
pub mod QuotedCharacters
pub mod QuotedTexts
pub mod Quotes
pub mod TextsRead
