pub mod Cartridge
pub mod Header
