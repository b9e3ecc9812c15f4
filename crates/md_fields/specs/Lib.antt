pub mod Distances
pub mod Fields
pub mod Items
pub mod Padding
pub mod Places
