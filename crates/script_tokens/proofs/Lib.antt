pub mod Reading
pub mod Cutting
pub mod Longest
pub mod Few
pub mod Places
pub mod Naming
pub mod Spelling
