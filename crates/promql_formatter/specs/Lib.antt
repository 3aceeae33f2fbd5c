pub mod Comments
pub mod CommentScans
pub mod Formats
pub mod Options
