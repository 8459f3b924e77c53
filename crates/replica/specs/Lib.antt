pub mod Entries
pub mod Turns
pub mod Chains
pub mod Laws
