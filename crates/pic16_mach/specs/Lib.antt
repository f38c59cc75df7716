-- what the machine does
pub mod Step
pub mod Insn
pub mod Words
pub mod State
pub mod Exec
pub mod Arithmetic
pub mod Control
pub mod File
pub mod Reset
-- what only the code needs
pub mod Groups
pub mod Asks
