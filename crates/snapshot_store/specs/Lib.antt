pub mod Asking
pub mod First
pub mod Kept
pub mod Named
