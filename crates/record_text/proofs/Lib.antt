pub mod OneSplit
pub mod StoredTerms
pub mod TripleLines
pub mod Sections
