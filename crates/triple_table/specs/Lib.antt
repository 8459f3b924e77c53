pub mod Hashes
pub mod Keys
pub mod Orders
pub mod Ranks
pub mod Tables
