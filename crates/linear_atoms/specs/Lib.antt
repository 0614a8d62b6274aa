pub mod Closing
pub mod Totals
pub mod Kinds
pub mod Filling
pub mod Whole
pub mod Bounds
