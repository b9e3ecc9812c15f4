pub mod Classes
pub mod DecodedModes
pub mod DecodedNumbers
pub mod Masks
pub mod Table
