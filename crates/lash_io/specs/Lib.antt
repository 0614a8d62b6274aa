pub mod Faults
pub mod Counters
pub mod Sources
pub mod Sinks
pub mod InMemory
pub mod Adapters
pub mod Blocks
