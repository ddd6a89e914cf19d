pub mod Groups
pub mod Squeezing
