pub mod CommandLine
pub mod Words
pub mod Faults
pub mod Plain
pub mod Building
