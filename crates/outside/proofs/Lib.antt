pub mod Sinks
pub mod NoneListed
