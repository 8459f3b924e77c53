pub mod Loading
pub mod Runs
pub mod Logged
pub mod Faults
pub mod Reading
pub mod Progress
pub mod Laws
pub mod Slots
