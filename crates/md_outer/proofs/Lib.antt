pub mod HeldFiles
pub mod Places
pub mod WrittenFiles
