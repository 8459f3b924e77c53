pub mod Growing
pub mod Fitting
pub mod Blocks
pub mod Refusing
pub mod Listed
pub mod Logging
pub mod Checking
pub mod Selecting
