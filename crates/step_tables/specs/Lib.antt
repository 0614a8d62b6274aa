pub mod Kept
pub mod Packing
pub mod Rows
pub mod FoundKeys
pub mod Gathering
