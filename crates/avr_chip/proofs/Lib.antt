pub mod Directions
pub mod Cells
pub mod Served
