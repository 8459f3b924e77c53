pub mod Paired
pub mod Closings
pub mod AllComponents
