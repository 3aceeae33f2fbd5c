-- Texts and matchers in their order, a file a topic.
pub mod Groups
pub mod LabelRows
pub mod OneOrder
pub mod OneSorting
pub mod PrintedTexts
pub mod RisingTexts
pub mod SortedMatchers
pub mod StableSort
pub mod TextOrders
pub mod TextRows
