-- What is printed is read again, a file a topic.
pub mod AnsweredMatchers
pub mod BuiltTrees
pub mod ClosedTrees
pub mod Grouped
pub mod Judging
pub mod NoneEmptyGroups
pub mod NormalMatchers
pub mod NormalPrintable
pub mod ParsedPrintable
pub mod PlacesAndGroups
pub mod PrintableByNodes
pub mod PrintableParts
pub mod PrintablePlaces
pub mod PrintableTexts
pub mod PrintedOffsets
pub mod TreeRows
