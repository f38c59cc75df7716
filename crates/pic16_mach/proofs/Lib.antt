pub mod GroupLemmas
pub mod Undone
pub mod AskLemmas
