pub mod Bits
pub mod Frames
pub mod Opening
pub mod Steps
pub mod Versions
pub mod Walks
pub mod Whole
