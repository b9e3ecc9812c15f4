pub mod Counts
pub mod Kept
pub mod Ranges
pub mod Regions
pub mod Same
pub mod Settled
pub mod Spelled
