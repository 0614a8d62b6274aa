pub mod Digits
mod Copying
mod Fields
mod Leading
