pub mod Changed
pub mod JsonLists
pub mod OwnChildren
pub mod Walks
