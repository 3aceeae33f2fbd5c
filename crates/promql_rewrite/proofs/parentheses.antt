-- Parentheses where a tree needs them, a file a topic.
pub mod AddedChildren
pub mod ParenFewest
pub mod ParenOrder
pub mod ParenPlaces
pub mod ParenRows
pub mod ParenTypes
