pub mod Equal
pub mod SameModifiersDecide
pub mod FedModifiers
pub mod NamedFunctions
pub mod SkippedRows
