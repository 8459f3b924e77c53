pub mod Rows
pub mod Broken
pub mod Surveyed
pub mod Measured
pub mod Steps
pub mod Laws
