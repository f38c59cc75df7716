pub mod WordLemmas
pub mod FineLemmas
pub mod DutyLemmas
