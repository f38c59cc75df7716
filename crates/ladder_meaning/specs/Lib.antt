-- what a reader of the promises must believe
pub mod State
pub mod Numbers
pub mod Device
pub mod Persist
pub mod Element
pub mod Node
pub mod Cycle
pub mod View
pub mod Bounds
-- worked rows, which try the definitions
pub mod Rows
