pub mod Filling
pub mod Adding
pub mod Wrapping
pub mod Raising
pub mod Searching
pub mod Turning
pub mod Trying
