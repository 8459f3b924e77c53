pub mod Assigned
pub mod Standing
pub mod Naming
pub mod Selecting
