-- The answer to a text, a file a topic.
pub mod AnswerLemmas
pub mod FaultPlacing
pub mod OwnFaults
pub mod QueryAnswers
pub mod SameParseErrors
