pub mod Core
pub mod Limits
pub mod Resolving
pub mod Counts
pub mod Values
pub use Rattle.script_syntax.specs.Trees
pub use Rattle.script_names.specs.Faults
