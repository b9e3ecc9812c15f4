pub mod Buttons
pub mod Pad
pub mod Recording
pub mod Reading
