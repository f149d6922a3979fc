pub mod BlockLines
pub mod Loading
