pub mod Pending
pub mod Fits
pub mod Runs
