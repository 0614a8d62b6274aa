pub mod Scopes
pub mod Kept
pub mod Faults
pub mod Answers
pub use Rattle.script_syntax.specs.Trees
