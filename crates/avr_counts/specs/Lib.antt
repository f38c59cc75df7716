-- what the functions inside say of the words that they count
pub mod Tested
