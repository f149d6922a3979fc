pub mod Judge
pub mod Refusal
pub mod Answers
pub mod House
