pub mod Splitting
pub mod Commands
pub mod Files
pub mod Loading
pub mod Sessions
