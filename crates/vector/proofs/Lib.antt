pub mod InStruct
