pub mod Distances
pub mod Flags
pub mod Items
pub mod Padding
pub mod Refusals
pub mod Standing
pub mod Tables
pub mod Values
