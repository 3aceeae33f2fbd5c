-- What may begin at a place, a file a topic.
pub mod FaultsRead
pub mod PunctuatorRows
pub mod ReadBeginnings
pub mod ScannedBeginnings
pub mod ScannedForms
pub mod TriviaLengths
