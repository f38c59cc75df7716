-- what a reader of the promises must believe
pub mod Words
-- the routines, and what their calls do
pub mod Routines
pub mod Calls
