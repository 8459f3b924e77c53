pub mod Causes
pub mod Judging
