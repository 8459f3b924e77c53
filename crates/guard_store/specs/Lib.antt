pub mod Slots
pub mod Sessions
pub mod Fronts
pub mod Callers
pub mod Answers
pub mod Laws
