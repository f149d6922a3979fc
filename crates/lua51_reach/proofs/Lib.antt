pub mod Marking
pub mod Reaching
