pub mod Reading
pub mod Loading
pub mod House
pub mod Program
pub mod Opening
pub mod Delivered
