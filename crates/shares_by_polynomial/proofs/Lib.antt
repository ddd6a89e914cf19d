pub mod FromCells
pub mod ThroughH
