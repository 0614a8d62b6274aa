pub mod Remaining
pub mod Filling
pub mod Priming
pub mod Assigning
pub mod Reading
