-- when a word is an instruction
pub mod Rows
pub mod Avr
pub mod Pic
