pub mod Counts
pub mod Files
pub mod Faults
pub mod Patterns
pub mod Memory
