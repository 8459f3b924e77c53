pub mod Levels
pub mod Root
pub mod Reading
