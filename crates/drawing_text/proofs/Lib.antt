pub mod Numerals
pub mod Forms
pub mod Lines
pub mod Sets
pub mod Drawings
pub mod Lengths
pub mod RoundTrips
pub mod Examples
