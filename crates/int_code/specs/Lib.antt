-- what a reader of the promises must believe
pub mod Shapes
pub mod Store
pub mod Device
pub mod Meaning
pub mod WellFormed
pub mod Kinds
pub mod Lowered
pub mod Literals
pub mod Text
pub mod Uses
pub mod Held
-- what only proofs need
pub mod Groups
pub mod Stands
pub mod Closes
