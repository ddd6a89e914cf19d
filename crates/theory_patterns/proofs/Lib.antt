pub mod Families
pub mod Laws
pub mod Counts
pub mod Examples
