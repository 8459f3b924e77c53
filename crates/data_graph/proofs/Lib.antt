pub mod ByNumber
pub mod Changing
pub mod Differing
pub mod Finding
pub mod Growing
pub mod Listed
pub mod Tests
pub mod AtOnce
mod ChangedTriples
mod Checking
mod Crossing
mod NamedLooks
mod Existing
mod Keeping
mod Moved
mod NoChecks
mod Overlaid
mod ByPlaces
mod Selecting
mod Laid
