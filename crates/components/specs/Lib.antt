pub mod Partings
pub mod Rankings
pub mod Walking
