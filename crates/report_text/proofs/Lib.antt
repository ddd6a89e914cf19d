pub mod Examples
mod Handing
mod Figures
pub mod Built
pub mod Printed
