pub mod Alike
pub mod Agreeing
pub mod Distinct
