pub mod Counts
pub mod RoundTrip
pub mod Answers
pub mod Whole
pub mod Decided
pub mod Lengths
pub mod AsBefore
pub mod Examples
