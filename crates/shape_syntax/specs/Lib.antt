pub mod Scans
pub mod Gathering
pub mod Subjects
pub mod PathNodes
pub mod PathSteps
pub mod PathDepth
pub mod PathWays
