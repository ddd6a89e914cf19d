pub mod Bools
pub mod Bounds
pub mod Counts
pub mod Tables
pub mod Parts
