pub mod Chosen
pub mod Faults
pub mod Fitting
pub mod Lines
pub mod Places
pub mod Sources
