pub mod Lists
pub mod Declaring
pub mod Fresh
pub mod Keeping
pub mod TruthKept
