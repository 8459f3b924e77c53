pub mod Kinds
pub mod Declarations
pub mod Parts
pub mod Asked
pub mod Faults
