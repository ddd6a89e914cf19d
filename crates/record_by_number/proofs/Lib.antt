pub mod Looking
pub mod Effects
pub mod Orders
pub mod Lines
pub mod Examples
