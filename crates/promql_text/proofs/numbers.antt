-- Numbers, exact and rounded, a file a topic.
pub mod Exacts
pub mod Finites
pub mod InForm
pub mod NumberRelation
pub mod NumberTests
pub mod NumberTexts
pub mod NumberValues
pub mod OneForm
pub mod ReadsBack
pub mod Tens
