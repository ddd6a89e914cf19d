pub mod Reports
pub mod Reporting
pub mod Inside
