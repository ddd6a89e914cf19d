pub mod Idle
pub mod Examples
