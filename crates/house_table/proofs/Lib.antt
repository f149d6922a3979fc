pub mod House
pub mod Inverse
