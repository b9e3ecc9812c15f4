pub mod Course
pub mod Entries
pub mod Held
pub mod Keys
pub mod Order
pub mod Ports
