pub mod Lines
pub mod Forms
pub mod Sets
pub mod Drawings
pub mod Whole
pub mod Writing
