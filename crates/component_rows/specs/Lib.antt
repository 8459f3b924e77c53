pub mod Nodes
pub mod Listed
pub mod Sites
pub mod Answers
pub mod Conformance
pub mod Bounds
