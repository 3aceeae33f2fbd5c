pub mod Events
pub mod FormNames
pub mod Json
pub mod JsonFaults
pub mod JsonParts
pub mod JsonTokens
