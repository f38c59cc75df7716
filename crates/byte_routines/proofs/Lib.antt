pub mod CellLemmas
pub mod WorkLemmas
pub mod WordSteps
pub mod GoLemmas
pub mod ProductLemmas
pub mod QuotientLemmas
pub mod CallLemmas
pub mod CostLemmas
