pub mod Places
pub mod Growing
pub mod Distinct
