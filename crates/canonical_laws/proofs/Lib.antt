pub mod Uniqueness
pub mod Diagrams
pub mod Carrying
