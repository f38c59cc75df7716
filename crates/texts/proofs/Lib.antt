pub mod LineLemmas
pub mod DigitLemmas
pub mod LimitLemmas
pub mod KeyLemmas
