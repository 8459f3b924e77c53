pub mod Collecting
pub mod Answering
pub mod Told
pub mod Tally
pub mod Conforming
pub mod Numbers
