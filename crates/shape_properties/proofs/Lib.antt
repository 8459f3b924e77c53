pub mod Names
pub mod SomeValues
pub mod ShapeNodes
pub mod Defined
pub mod Parameters
pub mod Turns
