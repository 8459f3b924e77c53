pub mod Fields
pub mod Days
pub mod Times
pub mod Forms
