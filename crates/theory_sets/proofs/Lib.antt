pub mod Masks
pub mod Ranges
pub mod Structures
pub mod Lists
pub mod Tables
pub mod Idle
