pub mod TotalSums
pub mod Numbered
pub mod Asked
pub mod Telling
