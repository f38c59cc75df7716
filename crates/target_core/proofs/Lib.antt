pub mod Counts
pub mod Steps
pub mod Paths
pub mod Runs
pub mod Images
pub mod Labels
pub mod Assembly
