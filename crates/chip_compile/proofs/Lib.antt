pub mod RunLemmas
pub mod HistoryLemmas
pub mod SeenLemmas
pub mod ShowLemmas
pub mod Carried
pub mod Placed
