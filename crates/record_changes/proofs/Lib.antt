mod FirstNumbers
pub mod Answers
pub mod Writing
