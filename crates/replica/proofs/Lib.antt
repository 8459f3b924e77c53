pub mod Taking
pub mod Leading
pub mod Keeping
pub mod Turning
pub mod Sending
