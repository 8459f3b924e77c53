pub mod Tallies
pub mod Made
pub mod Languages
pub mod Matched
