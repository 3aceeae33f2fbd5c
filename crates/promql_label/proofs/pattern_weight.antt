-- How much a pattern weighs, a file a topic.
pub mod AbsentBytes
pub mod PatternMeasures
pub mod PatternSizes
pub mod PatternWeights
pub mod RepeatCounts
