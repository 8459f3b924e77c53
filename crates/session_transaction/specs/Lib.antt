pub mod Transactions
pub mod Replies
pub mod Commits
pub mod Logging
pub mod Checks
