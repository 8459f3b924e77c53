pub mod Readable
pub mod OneVerdict
pub mod Given
