-- What is equal, and hashed alike, a file a topic.
pub mod FedModes
pub mod FedTrees
pub mod OtherKinds
pub mod SameFaults
pub mod SameModes
pub mod SameTests
