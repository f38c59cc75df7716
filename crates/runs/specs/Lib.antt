-- What a reader has to believe: runs, and how the step of a chip's written machine is stepped.
pub mod Run
pub mod Chip
