pub mod Orders
pub mod ByNames
pub mod PathCounts
pub mod Shorter
pub mod Series
pub mod Room
pub mod Examples
