pub mod Merged
pub mod Pairs
