pub mod All
pub mod Inside
