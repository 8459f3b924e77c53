pub mod Blocking
pub mod Severities
pub mod Sources
