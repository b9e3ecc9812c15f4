pub mod Aligned
pub mod Compares
pub mod Later
pub mod Stack
pub mod Taken
pub mod Touches
