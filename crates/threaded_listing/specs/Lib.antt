pub mod ByNode
pub mod Shares
