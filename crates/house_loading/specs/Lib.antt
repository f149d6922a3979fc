pub mod Loading
pub mod TableVerdict
