-- what a reader of the promises must believe
pub mod Ran
pub mod World
pub mod Command
pub mod Expected
pub mod Sources
pub mod Verdict
pub mod Carries
pub mod Code
pub mod Replays
pub mod Replayed
pub mod Agree
pub mod Report
pub mod HasMachine
pub mod StatusLine
-- what only the code's own steps and proofs need
pub mod Steps
pub mod Judged
