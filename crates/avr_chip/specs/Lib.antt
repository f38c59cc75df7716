-- what a reader of the promises must believe
pub mod Machine
pub mod Layout
