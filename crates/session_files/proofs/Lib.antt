pub mod Preparing
pub mod SoFar
pub mod Answering
pub mod Replaying
pub mod Gathering
