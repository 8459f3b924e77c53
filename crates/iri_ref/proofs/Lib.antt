pub mod Marks
pub mod Schemes
pub mod Prefixes
pub mod Rounds
pub mod Joins
pub mod Dots
pub mod Delimiters
pub mod Characters
