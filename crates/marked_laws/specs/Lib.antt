pub mod Weakening
pub mod TornTables
