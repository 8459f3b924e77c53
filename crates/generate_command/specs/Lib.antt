pub mod Load
pub mod Counts
