pub mod Rows
pub mod Joins
pub mod Folds
pub mod Accepted
pub mod Claims
pub mod Examples
