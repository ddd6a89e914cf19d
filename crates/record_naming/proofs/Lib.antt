pub mod Steps
pub mod Masks
pub mod Refusals
pub mod Positions
pub mod Examples
