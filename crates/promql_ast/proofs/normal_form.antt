-- Normal forms, and what prints as they do, a file a topic.
pub mod Blank
pub mod NormalForms
pub mod NormalParts
pub mod NormalTrees
pub mod PrintedMoments
