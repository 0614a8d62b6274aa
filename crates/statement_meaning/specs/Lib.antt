pub mod Values
pub mod Asking
pub mod Judging
pub use Rattle.script_meaning.specs.Resolving
pub mod Finding
pub mod Vectors
