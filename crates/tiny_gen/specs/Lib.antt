-- What a reader has to believe: the tiny machine, its code, and what one program of it does.
pub mod Machine
pub mod Code
pub mod Copier
-- that this code keeps the law
pub mod Laws
