-- what the theorem asks of a chip, and of a project's program
pub mod Serves
pub mod Linked
pub mod Placed
