pub mod Finding
pub mod SameTerms
