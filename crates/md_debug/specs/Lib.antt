pub mod Debuggees
pub mod Going
pub mod Keeping
pub mod Kept
pub mod Laws
pub mod Opened
pub mod Scripts
pub mod Sessions
