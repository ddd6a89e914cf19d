pub mod Retired
pub mod Steps
