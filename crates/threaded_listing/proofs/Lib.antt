pub mod Crossing
pub mod Gathering
