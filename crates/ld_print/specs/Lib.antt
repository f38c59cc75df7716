-- what a reader of the promises must believe
pub mod Printed
pub mod SameButLines
pub mod Words
