pub mod Relabeled
pub mod Seen
pub mod SeenAt
pub mod Stores
