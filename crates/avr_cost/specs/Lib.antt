-- what a reader of the promises must believe
pub mod Taken
pub mod Kept
