pub mod PartLists
pub mod Changes
pub mod Lines
