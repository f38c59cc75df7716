pub mod BitLemmas
pub mod CycleLemmas
