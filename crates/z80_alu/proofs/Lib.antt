pub mod Digits
pub mod FlagBits
pub mod Numbers
pub mod Rotations
