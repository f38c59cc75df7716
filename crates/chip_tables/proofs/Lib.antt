pub mod FoundLemmas
pub mod PinLemmas
pub mod RamLemmas
