pub mod durations
pub mod numbers
pub mod numerals
pub mod quoting
pub mod worked
pub mod writing
