-- What is promised, and what the promise is said in.
pub mod Outcome
pub mod Correct
pub mod Careful
pub mod Devices
pub mod Fit
-- The operations of each part, and where they find what they work on.
pub mod NodeCode
pub mod ElementCode
pub mod Wires
pub mod Masters
-- What the code's own steps ask of each other.
pub mod Nesting
pub mod Apart
