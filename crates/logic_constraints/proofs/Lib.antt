pub mod Conforming
pub mod Places
