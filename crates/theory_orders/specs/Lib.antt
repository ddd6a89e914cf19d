pub mod Orders
pub mod Counting
pub mod Formulas
pub mod Antichains
