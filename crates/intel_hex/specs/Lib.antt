-- What a reader has to believe.
pub mod Areas
pub mod Image
pub mod Record
pub mod Text
pub mod Said
pub mod Given
pub mod Kept
pub mod Verdict
-- What the code of this crate keeps.
pub mod Loaded
