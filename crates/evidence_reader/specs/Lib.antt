pub mod NextBlocks
pub mod Finding
pub mod RowLines
