pub mod Values
pub mod Loops
pub mod Statements
pub mod Outcomes
