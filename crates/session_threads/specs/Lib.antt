pub mod Places
pub mod Replies
pub mod Playing
pub mod Team
pub mod Ends
pub mod Slots
