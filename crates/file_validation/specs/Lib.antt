pub mod Numbering
pub mod Validations
pub mod Readings
pub mod Asked
