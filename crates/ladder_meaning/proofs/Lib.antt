pub mod PlaceLemmas
pub mod KeepLemmas
pub mod DeviceLemmas
pub mod NumberLemmas
pub mod LawLemmas
pub mod RowLemmas
