pub mod Matrices
pub mod Powers
pub mod Trials
pub mod Orbits
pub mod Products
pub mod Turns
