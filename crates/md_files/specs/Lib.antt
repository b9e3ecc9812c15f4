pub mod Journal
pub mod Pair
pub mod Ppm
pub mod Wav
