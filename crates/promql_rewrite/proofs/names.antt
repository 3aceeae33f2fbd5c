-- What a query names, a file a topic.
pub mod AppendedLists
pub mod AppendedNames
pub mod CollectedSets
pub mod OneSet
pub mod SomeNames
