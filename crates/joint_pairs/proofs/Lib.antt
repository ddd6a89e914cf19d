pub mod Packing
pub mod Sweeping
pub mod Pairing
