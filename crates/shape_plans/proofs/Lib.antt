mod Standing
mod Numbering
mod Counted
mod Comparing
pub mod Longer
