pub mod Format
pub mod Bad
pub mod Texts
pub mod Log
