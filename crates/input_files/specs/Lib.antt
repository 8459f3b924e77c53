pub mod Loads
pub mod Lengths
pub mod Faults
