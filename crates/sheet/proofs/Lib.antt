pub mod Codes
mod Written
pub mod Saving
pub mod Examples
pub mod Bounds
pub mod Lengths
