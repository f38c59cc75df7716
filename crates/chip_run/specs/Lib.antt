-- what a reader of the promises must believe
pub mod Replay
pub mod Shown
pub mod Lines
pub mod AtPins
pub mod Agree
pub mod ShownAgree
pub mod LinesAgree
