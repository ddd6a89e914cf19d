pub mod Joint
pub mod Formula
