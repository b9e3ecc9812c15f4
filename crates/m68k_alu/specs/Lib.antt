pub mod Arithmetic
pub mod Bits
pub mod Decimal
pub mod Division
pub mod Results
pub mod Shifts
pub mod Tasks
