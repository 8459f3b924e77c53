pub mod Spelled
pub mod Splits
pub mod LookTexts
pub mod RowTexts
pub mod Numbered
