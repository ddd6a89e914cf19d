pub mod PartNumbers
mod PartWalk
pub mod Answers
pub mod RoundTrip
