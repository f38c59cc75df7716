-- What a reader has to believe.
pub mod Line
pub mod Text
pub mod Program
pub mod Refused
pub mod Caused
pub mod Machine
-- What the code of this crate keeps.
pub mod Said
pub mod Written
pub mod Draft
pub mod Held
pub mod Outcome
