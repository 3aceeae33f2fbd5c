pub mod enforcement
pub mod mapped
pub mod names
pub mod parentheses
pub mod readback
pub mod renamed
pub mod rules_broken
pub mod well_typed
