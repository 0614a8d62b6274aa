pub mod PathEnds
pub mod LeastPaths
pub mod Marked
pub mod Walked
pub mod StateWalks
