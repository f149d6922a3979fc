pub mod Adds
pub mod Registers
pub mod Written
