-- Lists of labels and of matchers, a file a topic.
pub mod Appended
pub mod CommonLabels
pub mod LabelPrintedLen
pub mod LabelSets
pub mod MatcherSearch
pub mod PlacesSet
