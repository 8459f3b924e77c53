pub mod Added
pub mod Hired
pub mod Gathered
