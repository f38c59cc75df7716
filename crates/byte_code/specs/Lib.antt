-- What a reader has to believe of the byte machine: the table of the primitives, and how often they are begun.
pub mod Store
pub mod Table
pub mod Machine
pub mod Counts
pub mod Admitted
pub mod Kinds
pub mod Lowered
pub mod Samples
-- what the code keeps of a step
pub mod State
