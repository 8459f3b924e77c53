pub mod Built
pub mod Counts
pub mod Ranges
