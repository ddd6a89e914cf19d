pub mod Sums
pub mod Gathering
pub mod Integers
pub mod IntegerSums
pub mod Differences
pub mod Binomials
