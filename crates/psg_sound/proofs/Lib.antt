pub mod Courses
pub mod Heard
pub mod Histories
pub mod Levels
pub mod PortBytes
pub mod SynthBytes
pub mod SynthKept
pub mod Ticks
