pub mod Conditions
pub mod Positions
pub mod Kinds
pub mod Steps
pub mod Compiling
