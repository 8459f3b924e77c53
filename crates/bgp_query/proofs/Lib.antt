pub mod Complete
pub mod Joining
pub mod Once
pub mod Reaching
pub mod Rows
pub mod Trailing
