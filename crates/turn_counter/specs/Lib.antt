pub mod Chains
pub mod Sums
pub mod Workers
