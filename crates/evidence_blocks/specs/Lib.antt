-- The letters of these files: g, h are data graphs, s is a shapes graph; f is a focus node, r a result, b a block of evidence.
pub mod LookOrder
pub mod LookOrders
pub mod Blocks
pub mod Shown
pub mod BlockText
pub mod Readable
pub mod Verdicts
