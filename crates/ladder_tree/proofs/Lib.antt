pub mod FirstLemmas
pub mod FoldLemmas
pub mod FrontLemmas
pub mod NameLemmas
pub mod SoughtLemmas
pub mod VisitLemmas
