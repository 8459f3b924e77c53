pub mod Chains
pub mod Asking
pub mod Steps
pub mod Ranks
pub mod Siblings
pub mod Bundles
pub mod Laws
