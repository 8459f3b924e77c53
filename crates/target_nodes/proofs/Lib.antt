pub mod Laws
pub mod Members
pub mod Looking
pub mod Pairs
pub mod Agreeing
pub mod Places
