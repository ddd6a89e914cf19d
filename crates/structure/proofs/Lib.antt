pub mod Acceptance
pub mod Walks
