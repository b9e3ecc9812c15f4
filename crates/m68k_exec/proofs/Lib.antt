pub mod Bounds
pub mod Caches
pub mod Later
pub mod Prediction
pub mod Private
pub mod PrivateRows
pub mod Pushes
pub mod Turns
