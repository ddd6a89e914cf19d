pub mod Inserted
pub mod Kept
pub mod Places
pub mod Cells
pub mod Tracing
pub mod Together
pub mod Filing
pub mod Examples
