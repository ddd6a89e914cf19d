pub mod Words
pub mod NeighbourSets
pub mod Claims
