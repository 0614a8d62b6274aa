pub mod Differences
pub mod Runs
pub mod Vectors
