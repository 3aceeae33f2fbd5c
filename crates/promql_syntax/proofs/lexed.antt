-- The lexer reads what is printed, a file a topic.
pub mod LexedBraces
pub mod LexedEnds
pub mod LexedItems
pub mod LexedLabels
pub mod LexedModifiers
pub mod LexedMoments
pub mod LexedPostfixes
pub mod LexedPunctuators
pub mod LexedStarts
pub mod LexedTexts
pub mod LexedTrees
pub mod LexedValues
pub mod LexedWords
pub mod Lexes
