pub mod answer
pub mod building
pub mod lexed
pub mod parsing
pub mod printed
pub mod readback
