pub mod Nets
pub mod Arrivals
pub mod Searches
