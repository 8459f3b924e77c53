pub mod Finds
pub mod Pairs
pub mod Relations
pub mod Ways
