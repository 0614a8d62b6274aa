pub mod Behaviour
pub mod Canonical
pub mod Twins
