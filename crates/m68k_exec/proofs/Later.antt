pub mod First
pub mod Operations
pub mod Rows
pub mod Samples
