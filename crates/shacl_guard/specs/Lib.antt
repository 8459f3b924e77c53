pub mod Statuses
pub mod Requests
pub mod Due
pub mod LogRuns
pub mod Outcome
