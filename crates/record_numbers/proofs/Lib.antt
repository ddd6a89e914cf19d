pub mod Refusals
pub mod Rules
pub mod Marks
pub mod Others
pub mod Names
