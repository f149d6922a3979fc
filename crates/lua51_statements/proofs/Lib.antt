pub mod Counts
pub mod Nils
pub mod Pieces
