pub mod Adding
pub mod Listing
pub mod Marking
pub mod Gathering
pub mod Walking
pub mod Depending
