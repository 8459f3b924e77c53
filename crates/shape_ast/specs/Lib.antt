pub mod Components
pub mod Readings
pub mod Standing
pub mod Once
pub mod Binding
