pub mod Commands
pub mod Files
pub mod Given
pub mod Parse
pub mod Shown
pub mod Spelled
pub mod Words
