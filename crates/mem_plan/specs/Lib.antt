-- what a reader of the promises must believe
pub mod Needs
pub mod Misfit
pub mod Places
pub mod Apart
pub mod Seen
-- what only the code's own steps and proofs need
pub mod Shown
