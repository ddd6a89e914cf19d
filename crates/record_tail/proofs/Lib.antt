pub mod RoundTrip
pub mod Decided
pub mod Answers
pub mod Walk
