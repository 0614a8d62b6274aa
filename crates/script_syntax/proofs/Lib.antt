pub mod Steps
pub mod Loops
pub mod InHand
pub mod Sequences
pub mod Levels
