-- What a reader has to believe.
pub mod Token
pub mod Line
pub mod Trace
pub mod Shown
pub mod Duty
pub mod Simulated
-- What the code of this crate keeps.
pub mod Held
