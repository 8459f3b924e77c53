pub mod Devices
pub mod Nodes
pub mod Restoring
pub mod Opened
