pub mod Stopping
pub mod Ordering
pub mod Printing
pub mod Served
pub mod Differing
