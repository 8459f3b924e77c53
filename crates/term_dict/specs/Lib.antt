pub mod Entries
pub mod Faults
pub mod Hashes
pub mod Names
pub mod Orders
pub mod Tables
