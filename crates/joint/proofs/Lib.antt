pub mod Tails
pub mod Claims
