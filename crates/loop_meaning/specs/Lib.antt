pub mod Guards
pub mod Assigning
pub mod Looping
pub use Rattle.loop_laws.specs.Turns
pub use Rattle.script_meaning.specs.Resolving
