-- what a reader of the promises must believe
pub mod Lines
pub mod Digits
pub mod Limits
pub mod Keys
pub mod Begins
