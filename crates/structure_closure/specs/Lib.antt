pub mod Closure
pub mod Inside
