pub mod Kept
pub mod Laws
pub mod Merging
pub mod Orders
