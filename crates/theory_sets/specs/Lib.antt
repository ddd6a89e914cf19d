pub mod Masks
pub mod Structures
pub mod Tables
pub mod Idle
