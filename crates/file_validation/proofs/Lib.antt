pub mod Asks
pub mod NamedTriples
mod Cases
mod Emptiness
mod Members
mod TextReadings
mod Verdicts
