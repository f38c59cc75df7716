pub mod TextLemmas
pub mod NodeLemmas
pub mod WholeLemmas
