pub mod GrowLemmas
pub mod EntryLemmas
pub mod WrapLemmas
