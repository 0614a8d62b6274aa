pub mod Reaching
pub mod ClassRuns
pub mod Explorations
pub mod Comparing
pub mod FractionTables
