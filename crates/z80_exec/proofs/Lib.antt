pub mod Bounds
pub mod Caches
pub mod Compares
pub mod Prediction
pub mod Private
pub mod PrivateRows
pub mod Meaning
pub mod Refresh
