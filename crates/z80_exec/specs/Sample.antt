-- What a sample results in: an instruction or an interrupt.
pub mod Bounds
pub mod Caches
pub mod Entries
pub mod Execution
pub mod Prediction
pub mod Private
pub mod Samples
pub mod Times
