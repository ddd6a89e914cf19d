pub mod Firsts
pub mod Given
pub mod Claims
pub mod Examples
