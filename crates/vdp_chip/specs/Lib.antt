pub mod RendererState
pub mod Frames
pub mod Kept
pub mod Picture
pub mod Saved
pub mod Spelling
