-- The instructions, by the groups of the manual.
pub mod Arithmetic
pub mod Bits
pub mod Blocks
pub mod Calls
pub mod Control
pub mod Exchanges
pub mod Jumps
pub mod Loads
pub mod Pairs
pub mod Ports
pub mod Rotates
