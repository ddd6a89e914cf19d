pub mod Changes
pub mod Names
pub mod Records
pub mod Lines
