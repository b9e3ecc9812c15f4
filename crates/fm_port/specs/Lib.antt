pub mod Port
pub mod PortSpelling
pub mod Stamp
pub mod Timed
pub mod Timers
