pub mod Walking
pub mod Examples
