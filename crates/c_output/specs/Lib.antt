-- what a reader of the promises must believe
pub mod Text
pub mod Node
pub mod Element
pub mod Operand
pub mod Filled
-- what only the code's own steps and proofs need
pub mod Laid
