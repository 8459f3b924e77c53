pub mod Findings
pub mod PermittedPairs
