pub mod Accesses
pub mod Footprints
pub mod Frames
pub mod Laws
pub mod Samples
