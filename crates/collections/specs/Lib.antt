pub mod Ordered
pub mod Listings
pub mod Pairs
