pub mod Acceptance
pub mod Judging
pub mod Refusals
pub mod Since
pub mod House
