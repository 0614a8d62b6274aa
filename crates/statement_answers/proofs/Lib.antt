pub mod TableKinds
pub mod Shelving
pub mod Saying
pub mod Conditions
pub mod Pairing
pub mod Excluding
