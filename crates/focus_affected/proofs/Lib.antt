pub mod Ways
pub mod Found
pub mod Matched
pub mod Keys
pub mod Paired
pub mod Rows
