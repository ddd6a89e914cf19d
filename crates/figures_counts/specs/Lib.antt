pub mod Rows
pub mod Inside
