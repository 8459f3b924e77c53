pub mod Accepted
pub mod Graphs
pub mod Restores
pub mod Followers
