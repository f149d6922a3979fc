pub mod Bytes
pub mod Value
pub mod Constant
