pub mod FormFaults
pub mod FormMeasure
pub mod FormMembers
pub mod FormMisfits
pub mod MembersLeft
pub mod Readable
pub mod ReadableBelow
