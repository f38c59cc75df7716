pub mod Sums
pub mod Parts
pub mod Starts
pub mod Calls
pub mod Refused
pub mod Whole
