mod Found
mod KeyOrder
mod Listed
pub mod Places
mod Ranking
pub mod Sharing
