-- what a reader of the promises must believe
pub mod Leaves
pub mod Names
pub mod Peripherals
pub mod Fault
pub mod Forms
pub mod Size
-- what only the code's own steps and proofs need
pub mod Visit
pub mod Induct
