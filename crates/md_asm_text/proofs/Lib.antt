pub mod Alike
pub mod Runs
pub mod Splits
pub mod Values
