pub mod Changes
pub mod DataGraphs
pub mod Finding
pub mod Nets
pub mod Numbering
pub mod Pairs
