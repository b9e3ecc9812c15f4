-- A sample: an instruction, an exception, a trace or an interrupt.
pub mod Bounds
pub mod Caches
pub mod Entries
pub mod Execution
pub mod Prediction
pub mod Groups
pub mod Private
pub mod Samples
