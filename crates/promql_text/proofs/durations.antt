-- Durations, a file a topic.
pub mod DurationParts
pub mod DurationRelation
pub mod Nearest
pub mod PointAmong
pub mod Quotients
pub mod ReadsDuration
pub mod RoundedQuotients
pub mod SaturatingParts
pub mod SinglePart
