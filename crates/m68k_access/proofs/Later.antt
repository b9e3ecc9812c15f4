pub mod Accesses
pub mod Shapes
