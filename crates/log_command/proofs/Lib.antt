pub mod Greatest
pub mod LastStaged
pub mod InStep
pub mod Stopping
