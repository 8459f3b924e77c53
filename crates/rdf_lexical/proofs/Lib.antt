pub mod Spelled
pub mod Numbers
pub mod Joined
pub mod Runs
pub mod NameTails
pub mod TagTexts
pub mod EnclosedSteps
pub mod EnclosedTexts
pub mod EnclosedTokens
mod PlainRuns
pub mod Unescaping
pub mod Contents
pub mod LowerTags
pub mod Cut
