pub mod Parts
pub mod Walks
pub mod ListedSets
pub mod MinimalSets
pub mod Unchanged
pub mod Turns
