pub mod Ends
pub mod Constants
