pub mod Polynomials
pub mod SetBySet
pub mod Reliability
pub mod Refusals
pub mod Claim
pub mod Inside
