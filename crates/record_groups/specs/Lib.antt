pub mod Series
pub mod Without
