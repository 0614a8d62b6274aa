pub mod Accepted
pub mod IdleLetters
pub mod DeadStates
pub mod FixedSolutions
