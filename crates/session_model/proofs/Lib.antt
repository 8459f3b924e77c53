pub mod Walking
pub mod Naming
pub mod Printing
