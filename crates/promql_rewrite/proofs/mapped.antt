-- Selectors that are mapped, a file a topic.
pub mod KindedSelectors
pub mod MappedLists
pub mod MappedTrees
pub mod MappedTyped
pub mod MapsSelectors
