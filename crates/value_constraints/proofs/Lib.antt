pub mod Membership
pub mod Closings
