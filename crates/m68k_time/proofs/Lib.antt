pub mod Covers
pub mod Most
