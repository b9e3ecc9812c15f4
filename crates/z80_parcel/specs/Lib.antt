pub mod Laws
pub mod Parcels
pub mod Requests
pub mod Spelling
