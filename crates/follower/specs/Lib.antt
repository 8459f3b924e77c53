pub mod Records
pub mod Numbered
pub mod Followed
pub mod Versions
pub mod Laws
