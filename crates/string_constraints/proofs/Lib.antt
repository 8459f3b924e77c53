pub mod Kept
pub mod Patterns
pub mod Tags
