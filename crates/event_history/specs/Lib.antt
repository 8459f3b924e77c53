pub mod Kept
pub mod Named
pub mod Replies
pub mod Rows
