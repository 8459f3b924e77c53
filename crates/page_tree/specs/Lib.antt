pub mod Blocks
pub mod PageFalls
pub mod Pages
pub mod Reading
