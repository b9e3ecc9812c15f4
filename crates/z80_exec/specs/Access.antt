-- Registers, memory, shared accesses and operands.
pub mod Actions
pub mod Clauses
pub mod Conditions
pub mod Memory
pub mod Operands
pub mod Outcomes
pub mod Parts
