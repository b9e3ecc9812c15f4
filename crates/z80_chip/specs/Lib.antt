pub mod Cases
pub mod Events
pub mod Held
pub mod Rules
pub mod Saved
pub mod Validity
pub mod Spelling
pub mod States
