pub mod Joining
pub mod Turns
pub mod PathOrder
pub mod Weighing
pub mod Positions
