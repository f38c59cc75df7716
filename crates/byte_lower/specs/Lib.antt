-- what a reader of the promises must believe
pub mod Layout
pub mod Stands
pub mod Code
pub mod Whole
pub mod Placed
pub mod Outfit
pub mod Uses
pub mod Samples
pub mod Listed
-- the list of each operation
pub mod Lists
-- what the code's own steps ask of each other
pub mod Emitted
