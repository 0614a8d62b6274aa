pub mod Parsing
pub mod Places
pub mod Placed
