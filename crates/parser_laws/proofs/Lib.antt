pub mod Good
pub mod Sequence
pub mod Choice
pub mod Parts
pub mod Langs
pub mod Whole
pub mod Placed
