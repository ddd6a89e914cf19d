pub mod Tails
pub mod TailBytes
pub mod Inside
