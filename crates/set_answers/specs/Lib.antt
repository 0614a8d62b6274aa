pub mod Agreement
pub mod Differences
pub mod Vectors
pub mod Solving
pub mod Writing
