pub mod Kept
pub mod Legal
pub mod Weights
pub mod Costs
pub mod Carry
pub mod Words
pub mod Needed
