mod Framed
pub mod Lined
pub mod Scanlines
pub mod SavedLaws
