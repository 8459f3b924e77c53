pub mod Lengths
pub mod Matches
pub mod Languages
