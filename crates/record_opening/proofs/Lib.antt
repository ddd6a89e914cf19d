mod Loading
pub mod Designs
