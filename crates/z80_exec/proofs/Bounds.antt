pub mod Accesses
pub mod Cover
pub mod Rows
pub mod Samples
pub mod Steps
