pub mod Loading
pub mod Permutations
pub mod Bytes
pub mod Found
pub mod Examples
