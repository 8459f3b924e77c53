pub mod NamedTerms
mod NamedLists
mod Faults
pub mod Running
pub mod Consistency
pub mod Outcomes
pub mod Verdicts
pub mod Work
pub mod Planning
pub mod Conditions
pub mod Replaying
pub mod RestoredParts
mod RecordedTriples
pub mod LoggedCommits
pub mod Accepting
