pub mod Records
pub mod RecordBytes
pub mod Contents
pub mod Inside
