pub mod Cuts
pub mod Counts
pub mod Orders
pub mod Examples
