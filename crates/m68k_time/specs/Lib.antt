pub mod Addresses
pub mod Clocks
pub mod Exceptions
