pub mod Decimals
pub mod Signs
pub mod Puts
