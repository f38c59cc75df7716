-- What a reader has to believe of the assembler: the law of one primitive, and what it comes to for whole runs.
pub mod Law
pub mod Laid
pub mod Whole
-- what the code builds
pub mod Image
