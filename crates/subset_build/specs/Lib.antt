pub mod Projection
pub mod Closing
pub mod Subsets
