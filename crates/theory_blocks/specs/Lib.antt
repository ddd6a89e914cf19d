pub mod Assembly
pub mod Blocks
pub mod Formula
