pub mod Assemblies
pub mod Begun
pub mod Conversions
pub mod Lists
