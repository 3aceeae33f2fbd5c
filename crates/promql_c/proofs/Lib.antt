pub mod FiniteCollected
pub mod FiniteReaches
mod MadeTexts
pub mod FindingRows
pub mod RealTimes
pub mod SeriesAnswers
pub mod SeriesLabels
