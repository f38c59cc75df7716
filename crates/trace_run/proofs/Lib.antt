pub mod ViewLemmas
pub mod LineLemmas
pub mod StepLemmas
