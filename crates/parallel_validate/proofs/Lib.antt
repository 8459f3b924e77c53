mod PairParts
mod PairsParts
mod Counts
mod Verdict
pub mod Gathering
pub mod Counting
pub mod Members
pub mod Naming
pub mod NoShapes
pub mod Bounded
