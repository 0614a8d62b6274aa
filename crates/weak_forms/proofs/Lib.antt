pub mod Meeting
pub mod Following
pub mod FirstGoals
pub mod NotingMarks
pub mod Doubled
pub mod TornStates
pub mod Arriving
pub mod LoopWords
