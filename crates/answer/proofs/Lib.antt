pub mod Outcomes
pub mod Checks
pub mod Deliveries
pub mod Handing
pub mod FixedCells
pub mod Placing
pub mod Forms
