mod RowsOf
pub mod Keys
pub mod Placing
pub mod Numbering
pub mod Laying
