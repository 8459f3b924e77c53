pub mod Comparing
pub mod Telling
pub mod Taking
pub mod Naming
