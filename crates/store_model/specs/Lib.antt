pub mod Blocking
pub mod Nodes
pub mod Store
pub mod Logs
pub mod Actions
pub mod Finds
pub mod Snapshots
