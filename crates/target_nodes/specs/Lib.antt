pub mod Declarations
pub mod TargetNumbers
pub mod ShapeTargets
