pub mod Giving
pub mod Holding
pub mod Writing
pub mod Moving
