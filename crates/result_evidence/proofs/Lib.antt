pub mod Looked
pub mod Matched
mod Showing
pub mod LeastAims
mod Evidenced
pub mod Aimed
