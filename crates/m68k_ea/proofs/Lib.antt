pub mod Oddness
pub mod Stepping
pub mod Sums
