-- What a reader has to believe: which board a chip is.
pub mod Chip
-- what the functions inside say of the words that they append
pub mod Emit
