-- What a reader has to believe: lines, what each says at its place, its faults, how a project is spelled, and what a text stands for.
pub mod Lines
pub mod Place
pub mod Faults
pub mod Spelling
pub mod Text
pub mod Within
-- What the code of this crate keeps.
pub mod Tree
pub mod Reading
