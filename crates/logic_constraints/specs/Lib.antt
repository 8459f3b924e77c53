pub mod Demands
pub mod Properties
