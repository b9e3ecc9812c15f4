pub mod Overflows
pub mod PortBytes
pub mod Ports
pub mod Timing
