pub mod Tracks
pub mod Operations
pub mod Pairs
pub mod FractionPairs
pub mod ReadLassos
pub mod Negation
pub mod Restriction
pub mod Products
