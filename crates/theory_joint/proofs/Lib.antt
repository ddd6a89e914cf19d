pub mod Failures
pub mod Square
pub mod Places
pub mod Nested
pub mod Formula
pub mod Pairs
pub mod Examples
