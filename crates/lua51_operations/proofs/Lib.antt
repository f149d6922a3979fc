pub mod Arithmetic
pub mod Conditions
