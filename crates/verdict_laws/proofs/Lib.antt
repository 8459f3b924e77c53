pub mod OneBlock
pub mod Apart
pub mod ReadableTerms
pub mod Evidenced
