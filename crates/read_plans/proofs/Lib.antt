pub mod Growing
pub mod PathMembers
pub mod Copies
pub mod Lists
pub mod PathLooks
pub mod OwnLooks
pub mod ShapeSteps
pub mod Referred
pub mod Depths
pub mod Plans
mod NamedRows
