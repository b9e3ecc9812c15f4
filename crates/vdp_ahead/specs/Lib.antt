pub mod Lines
pub mod LineBuffers
