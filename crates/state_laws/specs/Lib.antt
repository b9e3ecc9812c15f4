pub mod Images
pub mod Kept
pub mod Verdicts
