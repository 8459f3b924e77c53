pub mod Terms
pub mod Orders
pub mod Graphs
pub mod Matching
pub mod NTriples
pub mod Numbers
