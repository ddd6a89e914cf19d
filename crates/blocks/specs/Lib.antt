pub mod Whole
pub mod Inside
