pub mod ErrorPlaces
pub mod FaultsOfForms
pub mod FormRows
pub mod MembersInOrder
pub mod NoNodes
pub mod ReadForms
pub mod ReadableTrees
