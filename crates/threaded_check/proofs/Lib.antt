mod Counts
mod Crossing
mod Joining
mod Parts
mod Verdict
