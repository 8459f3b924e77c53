pub mod Across
pub mod Listed
pub mod Listings
pub mod Looked
pub mod Matching
pub mod Prefixes
pub mod Viewed
