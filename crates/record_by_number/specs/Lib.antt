pub mod Parts
pub mod Effects
pub mod Lines
