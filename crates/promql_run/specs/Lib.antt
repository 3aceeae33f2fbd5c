pub mod Colors
pub mod Ended
pub mod Extensions
pub mod Inputs
pub mod Programs
pub mod Running
pub mod StepErrors
