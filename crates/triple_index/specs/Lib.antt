pub mod Changes
pub mod IdsOrder
pub mod Keys
pub mod Orders
pub mod Patterns
pub mod Rotations
pub mod Sets
