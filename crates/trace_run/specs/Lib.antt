-- what a reader of the promises must believe
pub mod Run
-- what only the code's own steps and proofs need
pub mod Held
