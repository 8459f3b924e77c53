pub mod References
pub mod Targets
pub mod Patterns
pub mod Names
pub mod Rows
