pub mod Lasting
pub mod Layers
pub mod Patterns
