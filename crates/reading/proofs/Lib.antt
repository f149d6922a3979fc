pub mod Opening
pub mod House
pub mod Loading
pub mod Delivered
pub mod Delivering
pub mod Program
