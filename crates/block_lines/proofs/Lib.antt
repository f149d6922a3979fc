pub mod Leads
pub mod Fronts
pub mod Spans
pub mod Parts
