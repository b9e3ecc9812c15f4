pub mod Digits
pub mod Quotients
pub mod Rotation
pub mod Signs
