pub mod Signs
pub mod Differences
