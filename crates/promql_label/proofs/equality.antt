-- What is equal, and hashed alike, a file a topic.
pub mod FedLists
pub mod FedMatchers
pub mod SameMatchers
