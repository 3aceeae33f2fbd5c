-- Trees over lines, a file a topic.
pub mod BracedLens
pub mod Counted
pub mod Digits
pub mod FromEmpty
pub mod Indentations
pub mod Indents
pub mod Layouts
pub mod LayoutsBy
pub mod Lists
pub mod NodeDepths
pub mod NodesLaidOut
pub mod Pushes
