-- What a reader has to believe.
pub mod Counts
pub mod Bytes
pub mod Wrap
pub mod MemFiles
pub mod MemOut
-- What the code of this crate keeps.
pub mod Host
pub mod Entries
pub mod Widened
