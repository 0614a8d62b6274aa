pub mod Texts
pub mod TextReading
pub mod TextsOfSets
