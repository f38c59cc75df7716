-- what a reader of the promises must believe
pub mod Boards
pub mod Admission
pub mod Sums
pub mod Need
pub mod Carried
pub mod Firmware
