pub mod Word
pub mod Jump
pub mod Proto
pub mod Instruction
pub mod Argument
pub mod Encode
