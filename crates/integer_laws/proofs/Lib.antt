pub mod Ring
pub mod Reading
pub mod Entries
