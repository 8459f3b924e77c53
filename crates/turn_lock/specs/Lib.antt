pub mod History
pub mod Meaning
pub mod Callers
pub mod Steps
pub mod Rule
