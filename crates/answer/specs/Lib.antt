pub mod Refusals
pub mod Outcome
pub mod Checks
pub mod Placed
