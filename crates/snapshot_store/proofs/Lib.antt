pub mod Asking
pub mod Looking
pub mod Sooner
pub mod Telling
