-- what a reader of the promises must believe
pub mod Said
pub mod Tokens
pub mod Numbers
pub mod Operands
pub mod Words
pub mod Kinds
pub mod Elements
pub mod Targets
pub mod Header
pub mod Pins
pub mod Rungs
pub mod Range
-- what only the code's own steps and proofs need
pub mod Steps
