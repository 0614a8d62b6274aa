pub mod ValueTotals
pub mod Counting
pub mod AtomTables
