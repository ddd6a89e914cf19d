pub mod Checks
pub mod Accepted
