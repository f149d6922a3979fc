pub mod Rows
pub mod Numbering
pub mod Parts
pub mod Fronts
