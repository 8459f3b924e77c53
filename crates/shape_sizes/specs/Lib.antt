pub mod References
pub mod Referring
pub mod Sizes
pub mod Counted
pub mod PathLooks
pub mod Surveys
pub mod Laws
