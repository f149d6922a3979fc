pub mod Arms
pub mod Leaves
pub mod Assigned
pub mod Captured
