-- what the devices do; `Device` says what they are set to
pub mod Device
pub mod Part
pub mod FileSpace
pub mod DeviceReads
pub mod DeviceWrites
pub mod DevicePolls
pub mod Reset
