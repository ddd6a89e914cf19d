pub mod Counts
pub mod Dominations
pub mod Counterexample
pub mod Cuts
pub mod Examples
