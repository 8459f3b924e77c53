pub mod Appending
pub mod Meeting
