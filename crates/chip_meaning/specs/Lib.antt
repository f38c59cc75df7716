-- what a reader of the promises must believe
pub mod Chip
pub mod Shows
pub mod Carries
