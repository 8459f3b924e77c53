pub mod Properties
pub mod Table
pub mod Tests
pub mod Syntax
pub mod OfProperties
pub mod Adding
pub mod Params
pub mod Laws
