pub mod Searching
pub mod Exacts
pub mod Placed
pub mod Gathered
pub mod Judged
pub mod Focused
pub mod Counted
