pub mod PathTexts
pub mod GraphPaths
pub mod Report
pub mod Sources
pub mod CompiledReport
pub mod EscapedBytes
pub mod Tables
pub mod Laws
