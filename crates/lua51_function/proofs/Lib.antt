pub mod Buffers
pub mod Standing
pub mod WordLines
pub mod WholeChunk
pub mod WholeFunction
