pub mod Vectors
pub mod Accepted
pub mod Inside
