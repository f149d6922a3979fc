pub mod Examples
pub mod Table
pub mod Encode
pub mod Widths
pub mod Signed
pub mod Targets
