pub mod Bytes
pub mod Fields
pub mod ByteForm
pub mod Reads
pub mod Reading
pub mod FieldReads
