pub mod Breakpoints
