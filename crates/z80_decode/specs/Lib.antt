pub mod Fields
pub mod Instructions
pub mod Lines
pub mod Nested
pub mod Ops
