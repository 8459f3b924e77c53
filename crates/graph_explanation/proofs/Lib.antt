mod Numbered
mod Keeping
pub mod Members
