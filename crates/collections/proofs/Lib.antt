pub mod Kept
pub mod Ascending
pub mod Places
pub mod SortedOnce
pub mod Members
