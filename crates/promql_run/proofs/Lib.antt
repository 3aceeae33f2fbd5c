pub mod Indentations
pub mod InputsRead
pub mod JsonForms
pub mod KnownBytes
mod Marks
pub mod NoExtensions
pub mod SameRunErrors
pub mod Statuses
