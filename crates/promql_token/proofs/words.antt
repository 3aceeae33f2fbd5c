-- Words, a file a topic.
pub mod Keywords
pub mod Names
pub mod WordRankTable
pub mod Words
