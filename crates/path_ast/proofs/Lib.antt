pub mod Rows
pub mod Parts
pub mod Sizes
pub mod ReadItems
pub mod Names
