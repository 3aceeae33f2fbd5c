pub mod FoundRefusals
mod NoDifferences
pub mod NoRefusals
