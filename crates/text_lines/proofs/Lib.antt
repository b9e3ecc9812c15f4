pub mod Ascii
pub mod FirstLine
pub mod Numerals
