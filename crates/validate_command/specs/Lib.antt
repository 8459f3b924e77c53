pub mod Lines
pub mod Validated
pub mod Faults
pub mod Verified
