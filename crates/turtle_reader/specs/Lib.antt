pub mod Parsers
pub mod Tokens
pub mod Terms
pub mod Grammar
pub mod Stack
pub mod Progress
pub mod Document
pub mod Laws
