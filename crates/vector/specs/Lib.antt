pub mod InStruct
pub mod Inside
