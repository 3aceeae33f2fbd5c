pub mod equality
pub mod label_lists
pub mod order
pub mod pattern_weight
pub mod plain_patterns
pub mod readback
pub mod regex_answers
