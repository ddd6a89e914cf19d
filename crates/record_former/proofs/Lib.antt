pub mod Fields
pub mod AsBefore
pub mod Examples
