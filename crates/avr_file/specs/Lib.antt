-- what a reader of the promises must believe
pub mod Carries
pub mod Replays
pub mod Agree
-- what only the code's own steps need
pub mod Run
pub mod Written
