pub mod SetLemmas
pub mod LoopLemmas
pub mod Times
pub mod Steps
pub mod Ways
pub mod SampleLemmas
pub mod ListedLemmas
pub mod ScratchLemmas
