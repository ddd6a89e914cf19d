pub mod Sheets
pub mod Saving
