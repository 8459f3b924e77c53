pub mod Settings
pub mod ValueNodes
pub mod Told
pub mod Around
pub mod ShapeRows
pub mod Predicates
pub mod Results
pub mod Looks
