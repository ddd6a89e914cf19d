pub mod Coefficients
