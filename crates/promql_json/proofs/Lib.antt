pub mod FaultOrder
pub mod Forms
pub mod JsonTokens
pub mod NoFloat
pub mod SameJsonErrors
