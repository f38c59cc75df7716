pub mod ApartLemmas
pub mod SeenLemmas
