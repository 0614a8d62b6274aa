pub mod KeptLetters
pub mod RisingSets
pub mod Uniqueness
pub mod Closings
pub mod Targets
pub mod LayingOut
pub mod SetRuns
pub mod Binding
