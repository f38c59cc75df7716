-- the facts of the chips, and what a step of a written machine is; proofs and code need nothing more
pub mod Pins
pub mod Memory
pub mod Configuration
pub mod Settings
pub mod Scratch
pub mod Cost
pub mod Outside
pub mod Step
pub mod Bits
