pub mod Numbers
pub mod Bounds
pub mod Refusing
