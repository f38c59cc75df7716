-- what a reader of the promises must believe
pub mod Rows
pub mod Within
