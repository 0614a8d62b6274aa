pub mod Finding
pub mod Ways
pub mod Marking
pub mod Doubling
pub mod Words
pub mod TornErrors
