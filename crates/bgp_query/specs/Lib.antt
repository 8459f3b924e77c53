pub mod AllBindings
pub mod Bindings
pub mod Selected
pub mod TermBindings
pub mod Trails
