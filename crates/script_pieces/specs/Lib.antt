pub mod Cuts
pub mod Limits
pub mod Taking
pub mod Answers
pub mod Searching
pub mod Filling
pub mod Windows
