-- The letters of these files: g is a data graph, s a shapes graph; f is a focus node, r a result, b a block of evidence.
pub mod Data
pub mod Standing
pub mod Aims
pub mod AimedOrder
pub mod AimedRows
