pub mod LocalSteps
pub mod PlaceSteps
pub mod NumberTokens
pub mod NumberTexts
pub mod NumberKinds
pub mod NameTokens
pub mod NameTexts
pub mod WordTokens
pub mod Bounds
pub mod Dispatch
pub mod Reached
pub mod Sound
pub mod TokenLaws
pub mod Stays
pub mod EarlyEnd
mod Letters
