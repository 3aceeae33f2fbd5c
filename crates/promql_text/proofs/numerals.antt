-- Digits and numerals, a file a topic.
pub mod DigitCounts
pub mod DigitsRead
pub mod Fractions
pub mod Plain
pub mod Points
pub mod Radix
pub mod Runs
pub mod ShortDecimals
pub mod ShortNumbers
pub mod SpelledForms
pub mod SpelledNumerals
pub mod TextForms
pub mod WhitespaceLemmas
