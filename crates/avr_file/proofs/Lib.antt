pub mod TraceLemmas
pub mod NumberLemmas
pub mod OnceLemmas
pub mod AgreeLemmas
