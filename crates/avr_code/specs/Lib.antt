-- What a reader has to believe: the code of each primitive, what the machine stands for, and which primitives are admitted.
pub mod Code
pub mod Stands
pub mod Target
