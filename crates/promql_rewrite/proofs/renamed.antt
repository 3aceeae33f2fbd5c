-- Other names for metrics and labels, a file a topic.
pub mod ClashingLabels
pub mod MetricNames
pub mod NameTokens
pub mod RenamedAlike
pub mod RenamedLists
pub mod RenamedNames
pub mod RenamedParts
pub mod RenamedPrintable
pub mod RenamedSelectors
pub mod RenamedSeries
pub mod RenamedTrees
pub mod RenamedTyped
pub mod RenamedTypes
